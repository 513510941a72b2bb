-- Reading what was written.
use Rattle.std.proofs.Common.{◌≡◌, ℕ, ◌≤◌, Bool, true, false, cond, ltb, List, ◌++◌, length, take, drop, sym, refl, ap, ◌∙◌, arith}
use Rattle.std.proofs.lemmas.List.{length-append, take_at, drop_at}
use Rattle.std.proofs.lemmas.Bool.{le-leb, eq-eqb, le-ltb, cond-false, and_from, false≢true}
use Rattle.faults.specs.declared.ReaderFault.TheVariants.{Cut}
use Rattle.trace_log.specs.Item.{Item, birth, make, target, death, read, write, exists, removal, post, await}
use Rattle.trace_log.specs.Format.{body, encode, Small, Writable}
use Rattle.trace_log.specs.Decode.{decode, framed, parsed, sized, got, refused}
use Rattle.trace_log.proofs.Numbers.{number_big, pairs_joined, length_joined}

-- a record whose length fits is handed out
fitting : (t : Bool) (i j : Item) (rest : List ℕ) → t ≡ true → i ≡ j → parsed (sized t i) rest ≡ got j rest
fitting true i j rest e same = ap (λ x. got x rest) same
fitting false i j rest e same = absurd (false≢true e)

pub framed_body : (i : Item) (rest : List ℕ) → Small i → framed (body i) rest ≡ got i rest
framed_body (birth p q t) rest s = λ j. got (birth (number_big 4 p s.0 j) (number_big 4 q s.1 j) (number_big 2 t s.2 j)) rest
framed_body (make p) rest s = λ j. got (make (number_big 4 p s j)) rest
framed_body (target p ts) rest s =
    let n = number_big 1 (length ts) s.1 in
    fitting _ _ _ rest (eq-eqb _ _ (omega (arith, n, length_joined ts))) (λ j. target (number_big 4 p s.0 j) (pairs_joined ts s.2 j))
framed_body (death p) rest s = λ j. got (death (number_big 4 p s j)) rest
framed_body (read p d i path) rest s = fitting _ _ _ rest (le-leb _ _ (omega arith)) (λ j. read (number_big 4 p s.0 j) (number_big 4 d s.1 j) (number_big 8 i s.2 j) path)
framed_body (write p d i path) rest s = fitting _ _ _ rest (le-leb _ _ (omega arith)) (λ j. write (number_big 4 p s.0 j) (number_big 4 d s.1 j) (number_big 8 i s.2 j) path)
framed_body (exists p path) rest s = fitting _ _ _ rest (le-leb _ _ (omega arith)) (λ j. exists (number_big 4 p s j) path)
framed_body (removal p d i true path) rest s = fitting _ _ _ rest (and_from _ _ (le-leb _ _ (omega arith)) refl) (λ j. removal (number_big 4 p s.0 j) (number_big 4 d s.1 j) (number_big 8 i s.2 j) true path)
framed_body (removal p d i false path) rest s = fitting _ _ _ rest (and_from _ _ (le-leb _ _ (omega arith)) refl) (λ j. removal (number_big 4 p s.0 j) (number_big 4 d s.1 j) (number_big 8 i s.2 j) false path)
framed_body (post p f) rest s = λ j. got (post (number_big 4 p s.0 j) (number_big 1 f s.1 j)) rest
framed_body (await p f) rest s = λ j. got (await (number_big 4 p s.0 j) (number_big 1 f s.1 j)) rest

-- a frame of n bytes and what follows, for the n that its two bytes say
pub open_frame : (bs rest : List ℕ) (n : ℕ) → n ≡ length bs → cond (ltb (length (bs ++ rest)) n) (refused Cut) (framed (take n (bs ++ rest)) (drop n (bs ++ rest))) ≡ framed bs rest
open_frame bs rest n e =
    let long : n ≤ length (bs ++ rest) = omega (arith, length-append bs rest) in
    cond-false _ _ _ (le-ltb _ _ long) ∙ (λ j. framed (take_at bs rest n (sym e) j) (drop_at bs rest n (sym e) j))

pub decode_encode : (i : Item) (rest : List ℕ) → Writable i → decode (encode i ++ rest) ≡ got i rest
decode_encode i rest w = open_frame (body i) rest _ (omega (arith, w.1)) ∙ framed_body i rest w.0
