-- Each table meets what the next call asks, and all of them together are what is built.
use native.Mathlib.Omega.{arith}
use mathlib.Core.Path.{refl}
use lib.ListN.{replicate}
use Rattle.removal.proofs.Building.CountLaws.{zeros}
use Rattle.removal.proofs.Building.BuildLaws.{listed_few, given_few, makeable, baseable, sortable, built}
use Rattle.removal.proofs.build.build_with.Goals as goal

pub layout-l-requires : goal.layout-l-requires
layout-l-requires c =
    let a = c.args in
    let b = c.requires.0 in
    (b.given.few_copies, b.given.few_edges, listed_few b.design b.list b.graph a.starts.now a.listed.now a.lengths.now a.nodes.now a.from.now a.to.now a.via.now b.given, omega (arith, b.counted, given_few b.design b.list b.graph a.starts.now a.listed.now a.lengths.now a.nodes.now a.from.now a.to.now a.via.now b.given))

pub list_tables-requires : goal.list_tables-requires
list_tables-requires c =
    let a = c.args in
    let b = c.requires.0 in
    makeable b.design b.list b.graph a.starts.now a.listed.now a.lengths.now a.nodes.now a.from.now a.to.now a.via.now a.candidates b.given c.layout-l.result c.layout-l.ensures b.counted b.edges_below b.starts_below b.nodes_below a.scratch.now a.roots.now (replicate 4097 0) b.room c.requires.1 c.requires.2 refl (zeros 4097)

pub fill_bases-requires : goal.fill_bases-requires
fill_bases-requires c =
    let a = c.args in
    let b = c.requires.0 in
    baseable b.design b.list b.graph a.starts.now a.listed.now a.lengths.now a.nodes.now a.from.now a.to.now a.via.now a.candidates b.given c.layout-l.result c.layout-l.ensures b.counted b.edges_below b.starts_below b.nodes_below a.scratch.now a.roots.now (replicate 4097 0) b.room c.requires.1 refl c.list_tables.new.s c.list_tables.new.roots c.list_tables.new.first c.list_tables.ensures

pub sort_edges-requires : goal.sort_edges-requires
sort_edges-requires c =
    let a = c.args in
    let b = c.requires.0 in
    sortable b.design b.list b.graph a.starts.now a.listed.now a.lengths.now a.nodes.now a.from.now a.to.now a.via.now a.candidates b.given c.layout-l.result c.layout-l.ensures b.counted b.edges_below b.starts_below b.nodes_below a.scratch.now a.roots.now (replicate 4097 0) b.room c.requires.1 refl c.list_tables.new.s c.list_tables.new.roots c.list_tables.new.first c.list_tables.ensures c.fill_bases.new.scratch c.fill_bases.ensures

pub returns : goal.returns
returns c =
    let a = c.args in
    let b = c.requires.0 in
    built a.starts.now a.listed.now a.lengths.now a.nodes.now a.from.now a.to.now a.via.now a.candidates a.scratch.now a.roots.now (replicate 4097 0) c.list_tables.new.s c.list_tables.new.roots c.list_tables.new.first c.fill_bases.new.scratch c.sort_edges.new.scratch c.clear.new.s c.layout-l.result b c.layout-l.ensures c.requires.1 refl c.list_tables.ensures c.fill_bases.ensures c.sort_edges.ensures c.clear.ensures
