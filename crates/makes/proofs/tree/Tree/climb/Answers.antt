use Rattle.std.proofs.Common.{◌+◌, ◌<◌, sym, ap, ◌∙◌, subst, arith}
use Rattle.std.proofs.lemmas.List.{length-map}
use Rattle.makes.specs.declared.places.Place.{Place}
use Rattle.makes.specs.Places.{parents, shape, shapes}
use Rattle.makes.specs.Shapes.{levels_few}
use Rattle.makes.specs.Tree.{Meets, levels}
use Rattle.makes.specs.TreeLemmas.{climb_meets, turn_none}
use Rattle.makes.specs.Walks.{Climbed, climb_none, parent_less, second_more, first_more}
use Rattle.makes.proofs.tree.Tree.climb.Goals as goal

pub loop-x-init : goal.loop-x-init
loop-x-init c = climb_none c.args.self.now.places.items c.args.self.now.sound.earlier c.requires.a_within c.requires.b_within

pub loop-x-smaller-then-x-y-2 : goal.loop-x-smaller-then-x-y-2
loop-x-smaller-then-x-y-2 c =
    let less = parent_less c.args.self.now.places.items c.args.self.now.sound.earlier c.loop-x.y (omega arith) in
    let same = ap (λ (p : Place). p.parent) c.place-y.ensures.answer in
    omega arith

pub loop-x-preserved-then-x-y-2 : goal.loop-x-preserved-then-x-y-2
loop-x-preserved-then-x-y-2 c =
    subst (λ (p : Place). Climbed c.args.self.now.places.items c.args.a c.args.b c.loop-x.x p.parent c.loop-x.left c.loop-x.y) (sym c.place-y.ensures.answer)
    (second_more c.args.self.now.places.items c.args.self.now.sound.earlier c.loop-x.invariant c.if-x-y-2.true)

pub loop-x-smaller : goal.loop-x-smaller
loop-x-smaller c =
    let lt : c.loop-x.y < c.loop-x.x = omega arith in
    let less = parent_less c.args.self.now.places.items c.args.self.now.sound.earlier c.loop-x.x (omega arith) in
    let same = ap (λ (p : Place). p.parent) c.place-x.ensures.answer in
    omega arith

pub loop-x-preserved : goal.loop-x-preserved
loop-x-preserved c =
    subst (λ (p : Place). Climbed c.args.self.now.places.items c.args.a c.args.b p.parent c.loop-x.y c.loop-x.x c.loop-x.right) (sym c.place-x.ensures.answer)
    (first_more c.args.self.now.places.items c.args.self.now.sound.earlier c.loop-x.invariant (omega arith))

pub returns : goal.returns
returns c =
    let ps = c.args.self.now.places.items in
    let tree = c.args.self.now.sound in
    let i = c.loop-x.invariant in
    let e = sym (turn_none (parents ps) i.turns c.loop-x.x c.loop-x.y c.loop-x.left c.loop-x.right c.if-x-y.true) ∙ i.leads in
    let size = length-map ps shape in
    let a = levels_few (shapes ps) tree c.args.a (omega arith) in
    let b = levels_few (shapes ps) tree c.args.b (omega arith) in
    record {
      answer = e;
      lowest = subst (Meets (parents ps) c.args.a c.args.b) (sym e) (climb_meets (parents ps) tree.earlier c.args.a c.args.b);
      turns = (levels (parents ps) c.args.a + levels (parents ps) c.args.b, omega arith, e);
    }
