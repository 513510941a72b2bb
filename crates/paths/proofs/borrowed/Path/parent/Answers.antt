use Rattle.std.proofs.Common.{take, sym, ap, ◌∙◌}
use Rattle.paths.specs.Parents.{parent}
use Rattle.paths.proofs.Parted.{only_parent, only_root, parted}
use Rattle.paths.proofs.borrowed.Path.parent.Goals as goal

pub returns-then-self-lt2 : goal.returns-then-self-lt2
returns-then-self-lt2 c =
    let bs = c.args.self.bytes.now in
    let e = only_root bs c.args.self.ok c.if-self-lt2.true in
    let v = ap parent (sym e) in
    record { value = v; law = e; only = λ up w l. v ∙ only_parent bs up w l }

pub invariant_of-result : goal.invariant_of-result
invariant_of-result c = record { ok = (parted c.args.self.bytes.now c.parent_len-end.result c.args.self.ok c.if-self-lt2.false c.parent_len-end.ensures.value).0 }

pub returns : goal.returns
returns c =
    let bs = c.args.self.bytes.now in
    let n = c.parent_len-end.result in
    let p = parted bs n c.args.self.ok c.if-self-lt2.false c.parent_len-end.ensures.value in
    let v = sym (only_parent bs (take n bs) p.0 p.1) in
    record { value = v; law = p.1; only = λ up w l. v ∙ only_parent bs up w l }
