-- Refusals and counts that fit one number of 64 bits.
use Rattle.std.specs.Prelude.{ℕ, ◌≤◌, ◌<◌, Option, Result, Ok, Err}
use Rattle.timing.specs.Answers.{Verdict, Late, OnTime}
use Rattle.timing.specs.declared.GraphCounts.{GraphCounts}
use Rattle.timing.specs.declared.Refusal.{Refusal}
use Rattle.timing.proofs.Verdicts.{Every}

abbrev pub SmallRefusal : Refusal → Type 0
SmallRefusal r = (r.number ≤ 36) × (r.place ≤ 65536)

abbrev pub Small : Verdict → Type 0
Small v = Every SmallRefusal v

abbrev pub SmallGraph : Result GraphCounts Refusal → Type 0
SmallGraph (Ok g) = (g.copies ≤ 16384) × (g.edges ≤ 65536)
SmallGraph (Err r) = SmallRefusal r

abbrev pub SmallLateness : Result (Option ℕ) Refusal → Type 0
SmallLateness (Late c) = c < 16384
SmallLateness OnTime = Unit {0}
SmallLateness (Err r) = SmallRefusal r

abbrev pub SmallWritten : Result ℕ Refusal → Type 0
SmallWritten (Ok end) = end < 9223372036854775808
SmallWritten (Err r) = SmallRefusal r
