-- What is asked and given where the classes are linked one after the other.
use Rattle.std.specs.Prelude.{ℕ, ◌-◌, ◌≤◌, ◌<◌, ◌≡◌, length, get_or, take}
use mathlib.Core.List.{List, [], ◌∷◌, Memᴰ}
use Rattle.timing.specs.Lists.{count_of}
use Rattle.removal.specs.declared.classes.Lists.{Lists}
use Rattle.removal.specs.Classes.{Filled, classes_of, class_count, class_at, Fails, live_at}
use Rattle.removal.specs.Tables.{dead_word, fail_in, loc_in, Told, FailsBelow, Located, Held, Searchable}

-- `roots`, as far as the classes below n go
pub record RootsBelow (L : List (List ℕ)) (roots : List ℕ) (n : ℕ) : Type 0 where
  pub is : (e : ℕ) → 0 < get_or roots e 0 → (get_or roots e 0 < n) × (get_or roots e 0 ≤ class_count L) × (class_at L (get_or roots e 0) ≡ e ∷ [])
  pub every : (e t : ℕ) → t < n → t ≤ class_count L → class_at L t ≡ e ∷ [] → get_or roots e 0 ≡ t

-- `live`: how many of the classes up to t are live at each node
abbrev pub LiveUpTo : List ℕ → List (List ℕ) → List ℕ → ℕ → Type 0
LiveUpTo starts L live t = (v : ℕ) → v < length live → get_or live v 0 ≡ count_of (live_at starts L v) (take t (classes_of L))

-- class t, which w tells, is to get its failure link: the classes below it have theirs
pub record NextLink (L : List (List ℕ)) (l : Lists) (s roots : List ℕ) (t w : ℕ) : Type 0 where
  pub search : Searchable L l s
  pub some : 0 < t
  pub inside : t ≤ class_count L
  pub told : Told L w t
  pub known : told.edge < length roots
  pub fails : FailsBelow L (fail_in l s) t
  pub singles : RootsBelow L roots t

-- and, by its failure link c, its place: the classes below it have theirs, and its own word tells whether it is a whole listed path
pub record NextPlace (starts : List ℕ) (L : List (List ℕ)) (l : Lists) (s live : List ℕ) (t w c : ℕ) : Type 0 where
  pub held : Held L l s
  pub filled : Filled L
  pub some : 0 < t
  pub inside : t ≤ class_count L
  pub told : Told L w t
  pub known : told.edge < length starts
  pub node : get_or starts told.edge 0 < length live
  pub fails : Fails L t c
  pub lower : (u : ℕ) → u < t → Located starts L u (get_or (loc_in l s) u 0)
  pub whole : Memᴰ (class_at L t) L → get_or (loc_in l s) t 0 ≡ dead_word
  pub other : (Memᴰ (class_at L t) L → ⊥) → get_or (loc_in l s) t 0 ≡ 0
  pub lives : LiveUpTo starts L live (t - 1)
