-- A record at the front of some bytes.
use Rattle.std.proofs.Common.{◌≡◌, ℕ, ◌^◌, ◌<◌, List, ◌++◌, length, Some, None, Ok, Err, Option, Result, sym, ap, ◌∙◌, inl, inr, arith}
use Rattle.std.specs.List.{IsSplitAt}
use Rattle.std.proofs.lemmas.List.{take-append-drop}
use Rattle.faults.specs.declared.ReaderFault.{ReaderFault}
use Rattle.trace_log.specs.declared.record.Record.{Record}
use Rattle.trace_log.specs.Item.{Item, item}
use Rattle.trace_log.specs.Format.{big, body, encode, Small, Writable}
use Rattle.trace_log.specs.Decode.{end, got, refused, decode}
use Rattle.trace_log.specs.Reading.{Next, Returned}
use Rattle.trace_log.proofs.Trip.{decode_encode}

-- a frame: two bytes for its length, then that many bytes
module _ (bs rest frame after : List ℕ) (n : ℕ) (e : bs ≡ big 2 n ++ rest) (cut : IsSplitAt rest n frame after) (few : n < 2 ^ 16) where
  parts : rest ≡ frame ++ after
  parts = sym (take-append-drop n rest) ∙ sym (λ j. cut.1 j ++ cut.2 j)

  pub frame_stood : (i : Item) → frame ≡ body i → Small i → (bs ≡ encode i ++ after) × Writable i
  frame_stood i is small =
      let size : n ≡ length (body i) = sym cut.3 ∙ ap length is in
      (e ∙ (λ j. big 2 (size j) ++ parts j) ∙ ap (λ b. big 2 (length (body i)) ++ (b ++ after)) is, (small, omega arith))

-- what a record that stood at the front is read as
pub stood_says : (bs rest : List ℕ) (i : Item) → (bs ≡ encode i ++ rest) × Writable i → decode bs ≡ got i rest
stood_says bs rest i h = ap decode h.0 ∙ decode_encode i rest h.1

-- what next answers is what was written there
pub returned : (here there : List ℕ) (r : Result (Option Record) ReaderFault) → Next here there r → Returned here there r
returned here there (Ok None) h i rest w e =
    let no_end : end ≡ got i rest = sym h.0 ∙ ap decode e ∙ decode_encode i rest w in
    let z : ◌≡◌ {A = ℕ} 0 1 = cc in absurd (omega arith)
returned here there (Ok (Some x)) h i rest w e =
    let same : got (item x) there ≡ got i rest = sym h ∙ ap decode e ∙ decode_encode i rest w in
    (cc, cc)
returned here there (Err f) (inl h, s) i rest w e =
    let no_end : refused f ≡ got i rest = sym h ∙ ap decode e ∙ decode_encode i rest w in
    let z : ◌≡◌ {A = ℕ} 0 1 = cc in absurd (omega arith)
returned here there (Err f) (inr h, s) i rest w e = h.0
