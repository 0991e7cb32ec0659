use Prim.Native.Nat.{◌-◌}
use native.Mathlib.Omega.{arith}
use mathlib.Core.Path.{◌≡◌, sym, ◌∙◌}
use lib.Seq.{length-take-le}
use Rattle.removal.proofs.Listing.LevelLaws.{Leveled}
use Rattle.removal.proofs.Listing.NumberedLaws.{level_start, level_bound, level_edged, level_made, level_numberable, level_next, all_numbered}
use Rattle.removal.proofs.levels.number_classes.Goals as goal

pub loop-n-init : goal.loop-n-init
loop-n-init c =
    let a = c.args in
    let p = c.requires.startable in
    (omega arith, omega arith, level_start a.listed.now a.lengths.now a.l a.s.now p c.path_ends.new.ends c.path_ends.new.who c.path_ends.ensures p.none)

pub level_items-requires : goal.level_items-requires
level_items-requires c =
    let a = c.args in
    let l = c.loop-n in
    let p = c.requires.startable in (
      level_edged a.listed.now a.lengths.now a.l a.s.now p c.path_ends.new.ends l.who l.s l.n l.d l.id c.path_ends.ensures.last l.invariant.0 (omega arith) l.invariant.2 (omega arith),
      length-take-le l.n l.items (omega arith) ∙ sym (length-take-le l.n l.who (omega arith)),
    )

pub sort_items-requires : goal.sort_items-requires
sort_items-requires c =
    let a = c.args in
    let l = c.loop-n in
    let p = c.requires.startable in
    let e = c.level_items.auto.items ∙ length-take-le l.n l.items (omega arith) in
    let made =
    level_made a.listed.now a.lengths.now a.l a.s.now p c.path_ends.new.ends l.who l.s l.n l.d l.id c.path_ends.ensures.last l.invariant.0 (omega arith) l.invariant.2
    c.level_items.new.items e c.level_items.ensures in
    (made.different, length-take-le l.n l.spare (omega arith) ∙ sym e, made.small)

pub number_level-level-requires : goal.number_level-level-requires
number_level-level-requires c =
    let a = c.args in
    let l = c.loop-n in
    let p = c.requires.startable in
    level_numberable a.listed.now a.lengths.now a.l a.s.now p c.path_ends.new.ends l.who l.s l.n l.d l.id c.path_ends.ensures.last l.invariant.0 (omega arith) l.invariant.2
    c.level_items.new.items (c.level_items.auto.items ∙ length-take-le l.n l.items (omega arith)) c.level_items.ensures c.sort_items.new.t c.sort_items.ensures

pub overflow_add-d : goal.overflow_add-d
overflow_add-d c =
    let a = c.args in
    let l = c.loop-n in
    let p = c.requires.startable in
    omega (arith, level_bound a.listed.now a.lengths.now a.l a.s.now p l.who l.s l.n (l.d - 1) l.id l.invariant.2 c.loop-n-test.true, p.list.few_edges)

pub loop-n-smaller : goal.loop-n-smaller
loop-n-smaller c =
    let a = c.args in
    let l = c.loop-n in
    omega (arith, l.invariant.0, level_bound a.listed.now a.lengths.now a.l a.s.now c.requires.startable l.who l.s l.n (l.d - 1) l.id l.invariant.2 c.loop-n-test.true)

pub loop-n-preserved : goal.loop-n-preserved
loop-n-preserved c =
    let a = c.args in
    let l = c.loop-n in
    let r = c.number_level-level in
    let p = c.requires.startable in
    let next =
    level_next a.listed.now a.lengths.now a.l a.s.now p c.path_ends.new.ends l.who l.s l.n l.d l.id c.path_ends.ensures.last l.invariant.0 (omega arith) l.invariant.2
    c.level_items.new.items (c.level_items.auto.items ∙ length-take-le l.n l.items (omega arith)) c.level_items.ensures c.sort_items.new.t c.sort_items.ensures
    r.new.s r.new.who r.result.left r.result.id r.ensures in
    (omega arith, omega (arith, next.0, l.invariant.1), next.1)

pub returns : goal.returns
returns c =
    let a = c.args in
    let l = c.loop-n in
    let e : l.n ≡ 0 = omega (arith, c.loop-n-test.false) in
    let A : Leveled a.listed.now a.lengths.now l.who a.s.now l.s a.l 0 (l.d - 1) l.id = rw e at l.invariant.2 in
    let r = all_numbered a.listed.now a.lengths.now a.l a.s.now c.requires.startable l.who l.s (l.d - 1) l.id A in
    record { all = r.0; ones = r.1; whole = r.2; frame = r.3 }
