-- A whole log, record by record.
use Rattle.std.proofs.Common.{◌≡◌, ℕ, suc, ◌+◌, ◌-◌, List, [], ◌∷◌, ◌++◌, map, length, Some, None, Option, sym, refl, ap, ◌∙◌, subst, inl, inr, append_assoc, append-nil, arith}
use Rattle.std.specs.List.{flat_map, AllByRecursion}
use Rattle.std.proofs.ByRecursion.{All-push}
use Rattle.std.proofs.lemmas.List.{length-append, map_push, flat_map_more}
use Rattle.faults.specs.declared.ReaderFault.{ReaderFault}
use Rattle.faults.specs.declared.ReaderFault.TheVariants.{Entry, BadVersion}
use Rattle.faults.specs.declared.EntryFault.{EntryFault}
use Rattle.faults.specs.declared.EntryFault.TheVariants.{NoMemory}
use Rattle.trace_log.specs.declared.contents.Placed.{Placed}
use Rattle.trace_log.specs.Item.{Item, item}
use Rattle.trace_log.specs.Format.{encode, log_of, Writable}
use Rattle.trace_log.specs.Decode.{Front, end, got, refused, decode}
use Rattle.trace_log.specs.Reading.{Refuses}
use Rattle.trace_log.specs.declared.contents.Refusal.{Refusal}
use Rattle.trace_log.specs.Whole.{placed, RecordAt, Stop, Reads, ends, stops, goes_on, ReadsLog, opened, unopened, record_of, stop_of}
use Rattle.trace_log.proofs.Trip.{decode_encode}

-- what has a first byte is not the end
abbrev Goes : Front → Type 0
Goes end = ⊥
Goes (got i rest) = Unit {0}
Goes (refused f) = Unit {0}

-- the records that are read are those that were written, each at its place
reads_written : (is : List Item) (place : ℕ) {size : ℕ} {bs : List ℕ} {xs : List RecordAt} {e : Option Stop} → AllByRecursion Writable is → bs ≡ flat_map encode is → place + length bs ≡ size → Reads size bs xs e → (xs ≡ placed place is) × (e ≡ None)
reads_written [] place w is at (ends d) = (refl, refl)
reads_written [] place w is at (stops f d) = absurd (subst Goes (sym d ∙ ap decode is) tt)
reads_written [] place w is at (goes_on i rest d h) = absurd (subst Goes (sym d ∙ ap decode is) tt)
reads_written (i ∷ more) place w is at (ends d) = absurd (subst Goes (sym (ap decode is ∙ decode_encode i (flat_map encode more) w.0) ∙ d) tt)
reads_written (i ∷ more) place w is at (stops f d) =
    let same : refused f ≡ got i (flat_map encode more) = sym d ∙ ap decode is ∙ decode_encode i (flat_map encode more) w.0 in
    let z : ◌≡◌ {A = ℕ} 0 1 = cc in absurd (omega arith)
reads_written (i ∷ more) place {size} {bs} w is at (goes_on j rest d h) =
    let same : got j rest ≡ got i (flat_map encode more) = sym d ∙ ap decode is ∙ decode_encode i (flat_map encode more) w.0 in
    let first : j ≡ i = cc in
    let after : rest ≡ flat_map encode more = cc in
    let long = length-append (encode i) (flat_map encode more) in
    let here : size - length bs ≡ place = omega arith in
    let there : place + length (encode i) + length rest ≡ size = omega (arith, ap length is, ap length after) in
    let others = reads_written more (place + length (encode i)) w.1 after there h in
    ((λ k. record { place = here k; says = first k } ∷ others.0 k), others.1)

pub log_written : {log : List ℕ} {xs : List RecordAt} {e : Option Stop} → ReadsLog log xs e → (is : List Item) → AllByRecursion Writable is → log ≡ log_of is → (xs ≡ placed 1 is) × (e ≡ None)
log_written (opened {bs} h) is w e = reads_written is 1 w (cc) (omega arith) h
log_written (unopened other) is w e = absurd (other (flat_map encode is) e)

abbrev says : Placed → Item
says p = item p.record

abbrev items : List Placed → List Item
items xs = map (λ x. x.says) (map record_of xs)

items_push : (xs : List Placed) (p : Placed) → items (xs ++ p ∷ []) ≡ items xs ++ says p ∷ []
items_push xs p = ap (map (λ x. x.says)) (map_push record_of xs p) ∙ map_push (λ x. x.says) (map record_of xs) (record_of p)

-- the records so far of a log, and the bytes that are left of it
pub record Sofar (log : List ℕ) (xs : List Placed) (size : ℕ) (left : List ℕ) : Type 0 where
  pub written : log ≡ 1 ∷ (flat_map encode (items xs) ++ left)
  pub small : AllByRecursion Writable (items xs)
  pub on : (ys : List RecordAt) (e : Option Stop) → Reads size left ys e → ReadsLog log (map record_of xs ++ ys) e

pub none_yet : (log left : List ℕ) (size : ℕ) (xs : List Placed) → xs ≡ [] → log ≡ 1 ∷ left → size ≡ length log → Sofar log xs size left
none_yet log left size xs none is long =
    let start : Sofar (1 ∷ left) [] (suc (length left)) left = record { written = refl; small = tt; on = λ ys e h. opened h } in
    let there = subst (λ n. Sofar (1 ∷ left) [] n left) (sym (long ∙ ap length is)) start in
    subst (λ l. Sofar l xs size left) (sym is) (subst (λ ps. Sofar (1 ∷ left) ps size left) (sym none) there)

module _ {log : List ℕ} {xs : List Placed} {size : ℕ} {left : List ℕ} (so : Sofar log xs size left) where
  pub one_more : (p : Placed) (ps : List Placed) (there : List ℕ) → p.place ≡ size - length left → decode left ≡ got (says p) there → left ≡ encode (says p) ++ there → Writable (says p) → ps ≡ xs ++ p ∷ [] → Sofar log ps size there
  one_more p ps there at d stood w is =
      subst (λ zs. Sofar log zs size there) (sym is) (record {
        written = so.written ∙ ap (λ l. 1 ∷ l) (ap (λ l. flat_map encode (items xs) ++ l) stood ∙ sym (append_assoc (flat_map encode (items xs)) (encode (says p)) there) ∙ ap (λ l. l ++ there) (flat_map_more encode [] (items xs) (says p) ∙ ap (flat_map encode) (sym (items_push xs p))));
        small = subst (AllByRecursion Writable) (sym (items_push xs p)) (All-push Writable (items xs) (says p) so.small w);
        on = λ ys e h.
            let same : map record_of xs ++ (record { place = size - length left; says = says p } ∷ ys) ≡ map record_of (xs ++ p ∷ []) ++ ys =
            (λ k. map record_of xs ++ (record { place = sym at k; says = says p } ∷ ys)) ∙ sym (append_assoc (map record_of xs) (record_of p ∷ []) ys) ∙ ap (λ l. l ++ ys) (sym (map_push record_of xs p))
            in
            subst (λ zs. ReadsLog log zs e) same (so.on _ e (goes_on (says p) there d h));
      })

  pub at_end : decode left ≡ end → ReadsLog log (map record_of xs) None
  at_end d = subst (λ zs. ReadsLog log zs None) (append-nil (map record_of xs)) (so.on [] None (ends d))

  pub refused_here : (f : ReaderFault) (r : Refusal) (place : ℕ) → place ≡ size - length left → Refuses (decode left) f → r ≡ record { place = place; fault = f } → ((g : EntryFault) → f ≡ Entry g → ⊥) → ReadsLog log (map record_of xs) (Some (stop_of r))
  refused_here f r place at (inl d) is other =
      let stop : ◌≡◌ {A = Stop} (record { place = size - length left; fault = f }) (stop_of r) = (λ k. record { place = sym at k; fault = f }) ∙ ap stop_of (sym is) in
      let all = subst (λ zs. ReadsLog log zs (Some (record { place = size - length left; fault = f }))) (append-nil (map record_of xs)) (so.on [] _ (stops f d)) in
      subst (λ s. ReadsLog log (map record_of xs) (Some s)) stop all
  refused_here f r place at (inr h) is other = absurd (other NoMemory h.0)

-- a log whose version is not 1
pub not_opened : (log : List ℕ) (xs : List Placed) (f : ReaderFault) (r : Refusal) → xs ≡ [] → f ≡ BadVersion → ((bs : List ℕ) → log ≡ 1 ∷ bs → ⊥) → r ≡ record { place = 0; fault = f } → ReadsLog log (map record_of xs) (Some (stop_of r))
not_opened log xs f r none is other stop =
    let at : ◌≡◌ {A = Stop} (stop_of r) (record { place = 0; fault = BadVersion }) = ap stop_of stop ∙ (λ k. record { place = 0; fault = is k }) in
    subst (λ ps. ReadsLog log (map record_of ps) (Some (stop_of r))) (sym none) (subst (λ s. ReadsLog log [] (Some s)) (sym at) (unopened other))
