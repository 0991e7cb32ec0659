-- Each pass finds what it asks, and what they leave is what is to be made.
use native.Mathlib.Omega.{arith}
use Rattle.timing.specs.Marks.{path_list, paths_of}
use Rattle.removal.proofs.Listing.MadeLaws.{made_numbered, made_linkable, made_few, made_placeable, made_all}
use Rattle.removal.proofs.classes.list_tables.Goals as goal

pub make_kids-requires : goal.make_kids-requires
make_kids-requires c =
    let a = c.args in
    let n = c.number_listed-count in
    let L = paths_of (path_list a.listed.now a.lengths.now) in
    (L, made_numbered a.l a.starts.now a.listed.now a.lengths.now a.s.now a.roots.now a.first.now c.requires n.result c.clear.new.s n.new.s c.clear.ensures.1 n.ensures)

pub link_classes-requires : goal.link_classes-requires
link_classes-requires c =
    let a = c.args in
    let n = c.number_listed-count in
    let k = c.make_kids in
    let L = paths_of (path_list a.listed.now a.lengths.now) in (
      (
        L,
        made_linkable a.l a.starts.now a.listed.now a.lengths.now a.s.now a.roots.now a.first.now c.requires n.result c.clear.new.s n.new.s c.clear.ensures.1 n.ensures
            k.new.s (k.ensures.0 L) k.ensures.1,
      ),
      c.requires.roots_room,
      λ i. omega (arith, c.requires.nodes i, c.requires.first_room),
      c.requires.roots_none,
      c.requires.first_none,
    )

pub sum_before-requires : goal.sum_before-requires
sum_before-requires c =
    let a = c.args in
    let n = c.number_listed-count in
    let k = c.make_kids in
    let m = c.link_classes in
    let L = paths_of (path_list a.listed.now a.lengths.now) in
    made_few a.l a.starts.now a.listed.now a.lengths.now a.s.now a.roots.now a.first.now c.requires n.result c.clear.new.s n.new.s c.clear.ensures.1 n.ensures
    k.new.s (k.ensures.0 L) k.ensures.1 m.new.s m.new.roots m.new.live (m.ensures.0 L) m.ensures.1 m.ensures.2 m.ensures.3

pub place_marks-requires : goal.place_marks-requires
place_marks-requires c =
    let a = c.args in
    let n = c.number_listed-count in
    let k = c.make_kids in
    let m = c.link_classes in
    let u = c.sum_before in
    let L = paths_of (path_list a.listed.now a.lengths.now) in (
      L,
      made_placeable a.l a.starts.now a.listed.now a.lengths.now a.s.now a.roots.now a.first.now c.requires n.result c.clear.new.s n.new.s c.clear.ensures.1 n.ensures
          k.new.s (k.ensures.0 L) k.ensures.1 m.new.s m.new.roots m.new.live (m.ensures.0 L) m.ensures.1 m.ensures.2 m.ensures.3 u.new.c u.ensures.0 u.ensures.1,
    )

pub returns : goal.returns
returns c =
    let a = c.args in
    let n = c.number_listed-count in
    let k = c.make_kids in
    let m = c.link_classes in
    let u = c.sum_before in
    let v = c.place_marks in
    let L = paths_of (path_list a.listed.now a.lengths.now) in
    made_all a.l a.starts.now a.listed.now a.lengths.now a.s.now a.roots.now a.first.now c.requires n.result c.clear.new.s n.new.s c.clear.ensures.1 n.ensures
    k.new.s (k.ensures.0 L) k.ensures.1 m.new.s m.new.roots m.new.live (m.ensures.0 L) m.ensures.1 m.ensures.2 m.ensures.3 u.new.c u.ensures.0 u.ensures.1 v.new.s (v.ensures.0 L) v.ensures.1
