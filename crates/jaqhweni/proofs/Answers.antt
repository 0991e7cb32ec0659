-- What a call made, found or wrote, from its answer to the number that is answered.
use Prim.Native.Nat.{ℕ, ◌<◌, ◌^◌}
use mathlib.Core.Path.{◌≡◌, sym, ap, ◌∙◌, subst}
use Rattle.std.specs.Prelude.{Option, Result}
use Rattle.timing.specs.Answers.{Verdict}
use Rattle.timing.specs.declared.GraphCounts.{GraphCounts}
use Rattle.timing.specs.declared.Refusal.{Refusal}
use lib.IntN.{ℤ}
use lib.Signed.{mag}
use mir.Syntax.{w64}
use mir.Val.{hbits, to_z, of_z}
use Rattle.timing.specs.Calls.{graph_number, verdict_number, lateness_number, c_number}
use Rattle.timing.proofs.Ints.{read_back}
use Rattle.true_graph.specs.Small.{SmallGraph, Small, SmallLateness, SmallWritten}

module _ {g x : Result GraphCounts Refusal} (e : x ≡ g) where
  pub made_small : SmallGraph g → SmallGraph x
  made_small s = subst SmallGraph (sym e) s

  pub made_number : (z : ℤ) → mag z < 2 ^ hbits w64 → z ≡ graph_number x → to_z w64 (of_z w64 z) ≡ graph_number g
  made_number z h q = read_back z h ∙ q ∙ ap graph_number e

module _ {v x : Verdict} (e : x ≡ v) where
  pub found_small : Small v → Small x
  found_small s = subst Small (sym e) s

  pub found_number : (z : ℤ) → mag z < 2 ^ hbits w64 → z ≡ verdict_number x → to_z w64 (of_z w64 z) ≡ verdict_number v
  found_number z h q = read_back z h ∙ q ∙ ap verdict_number e

module _ {l x : Result (Option ℕ) Refusal} (e : x ≡ l) where
  pub lateness_small : SmallLateness l → SmallLateness x
  lateness_small s = subst SmallLateness (sym e) s

  pub lateness_number_lem : (z : ℤ) → mag z < 2 ^ hbits w64 → z ≡ lateness_number x → to_z w64 (of_z w64 z) ≡ lateness_number l
  lateness_number_lem z h q = read_back z h ∙ q ∙ ap lateness_number e

module _ {w x : Result ℕ Refusal} (e : x ≡ w) where
  pub written_small : SmallWritten w → SmallWritten x
  written_small s = subst SmallWritten (sym e) s

  pub written_number : (z : ℤ) → mag z < 2 ^ hbits w64 → z ≡ c_number x → to_z w64 (of_z w64 z) ≡ c_number w
  written_number z h q = read_back z h ∙ q ∙ ap c_number e
