use Rattle.std.proofs.Common.{◌≡◌, ◌++◌, map, length, string_bytes, vec_items, sym, ap, ◌∙◌}
use Rattle.std.specs.List.{flat_map}
use Rattle.std.proofs.lemmas.List.{length-map, take_all}
use Rattle.std.proofs.lemmas.List.Folds.{flat_map-map}
use Rattle.trace_log.specs.Whole.{records_of, refusal_of, record_of}
use Rattle.log_list.specs.Lines.{listing, line, last_line}
use Rattle.log_list.proofs.lines.list.Goals as goal

pub returns : goal.returns
returns c =
    let all = c.in_ok-records.field-0 in
    let told = c.in_ok-records.ensures in
    let rs = records_of all in
    let stop = refusal_of all in
    let items = c.deref-placed-items.result.now in
    let lines : string_bytes c.loop-placed.out ≡ flat_map line rs =
    c.loop-placed.invariant ∙ ap (flat_map (λ p. line (record_of p))) (take_all c.loop-placed.placed-index items c.loop-placed-test.false) ∙ sym (flat_map-map line record_of items)
    ∙ ap (λ ps. flat_map line (map record_of ps)) c.deref-placed-items.ensures.value
    in
    let count : c.len-count.result ≡ length rs = c.len-count.ensures ∙ all.records.ok.0 ∙ sym (length-map (vec_items all.records) record_of) in
    let text : vec_items c.into_bytes.result ≡ listing rs stop = ap vec_items c.into_bytes.ensures.value ∙ c.in_ok-write-2.ensures.bytes ∙ (λ i. lines i ++ last_line (count i) stop) in
    record { lists = (rs, (stop, (told.reads, text))); written = λ is w e. text ∙ (λ i. listing ((told.returned is w e).0 i) ((told.returned is w e).1 i)) }
