-- The tables of a list stay what they are while their words do.
use Prim.Native.Nat.{ℕ, suc, ◌+◌, ◌≤◌}
use native.Mathlib.Omega.{arith}
use mathlib.Core.Path.{◌≡◌, sym, subst}
use mathlib.Core.List.{List}
use lib.ListN.{length}
use Rattle.removal.specs.declared.classes.Lists.{Lists}
use Rattle.removal.specs.Table.{table}
use Rattle.removal.specs.Classes.{class_count}
use Rattle.removal.specs.Tables.{list_words, kid_in, kids_in, fail_in, loc_in, marks_in, Laid, Kids, FailsBelow, Locs, ClassesOf, Automaton}

module _ (starts : List ℕ) (L : List (List ℕ)) (l : Lists) (s t : List ℕ)
    (same : (b m : ℕ) → b + m ≤ list_words l.edges → table t b m ≡ table s b m) (room : list_words l.edges ≤ length t) (a : Automaton starts L l s) where
  w : Laid l
  w = a.search.held.laid

  pub automaton_same : Automaton starts L l t
  automaton_same =
      record {
        search = record {
          held = record { laid = w; room = room; few_edges = a.search.held.few_edges; few = a.search.held.few };
          filled = a.search.filled;
          kids = subst (λ (x : List ℕ). Kids L x (kids_in l t)) (sym kid_same) (subst (λ (x : List ℕ). Kids L (kid_in l s) x) (sym kids_same) a.search.kids);
        };
        fails = subst (λ (x : List ℕ). FailsBelow L x (suc (class_count L))) (sym fail_same) a.fails;
        locs = subst (λ (x : List ℕ). Locs starts L x) (sym loc_same) a.locs;
        classes = subst (λ (x : List ℕ). ClassesOf starts L x) (sym marks_same) a.classes;
      }
    where
      kid_same : kid_in l t ≡ kid_in l s
      kid_same = same l.kid (l.edges + 1) (omega (arith, w.kid))

      kids_same : kids_in l t ≡ kids_in l s
      kids_same = same l.kids l.edges (omega (arith, w.kids))

      fail_same : fail_in l t ≡ fail_in l s
      fail_same = same l.fail (l.edges + 1) (omega (arith, w.fail))

      loc_same : loc_in l t ≡ loc_in l s
      loc_same = same l.loc (l.edges + 1) (omega (arith, w.loc))

      marks_same : marks_in l t ≡ marks_in l s
      marks_same = same (l.marks + 1) l.edges (omega (arith, w.marks))
