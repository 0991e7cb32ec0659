-- The tables that tell the classes of a list, as lists of words.
use Rattle.std.specs.Prelude.{ℕ, zero, suc, ◌+◌, ◌-◌, ◌*◌, ◌≤◌, ◌<◌, ◌≡◌, true, false, length, get_or}
use mathlib.Core.List.{List, [], ◌∷◌, map, Memᴰ}
use Rattle.timing.specs.Lists.{sum, upto}
use Rattle.timing.specs.Marks.{path_list, paths_of, mark}
use Rattle.theorems.proofs.Marks.{begins}
use Rattle.removal.specs.declared.classes.Lists.{Lists}
use Rattle.removal.specs.Table.{table, Frame}
use Rattle.removal.specs.Classes.{Filled, class_count, class_at, Fails, Root, marks_at, At}

-- two numbers as one word; there are at most 16,384 edges and 16,384 classes
abbrev pub packed : ℕ → ℕ → ℕ
packed a b = a * 32768 + b

-- what stands for a dead class where others have their place among the marks
abbrev pub dead_word : ℕ
dead_word = 32767

-- what the passes over a list ask: two lists of full size may stand one after the other in it
pub record Listable (listed lengths : List ℕ) : Type 0 where
  pub total : sum lengths ≡ length listed
  pub filled : Filled (paths_of (path_list listed lengths))
  pub few_paths : length lengths ≤ 2048
  pub few_edges : length listed ≤ 16384
  pub edges_below : (i : ℕ) → i < length listed → get_or listed i 0 < 16384

-- the tables stand one after the other. Of a list with n edges kid has n + 1 words, kids n, fail and loc n + 1, one and marks n; these
-- two are counted from 1.
pub record Laid (l : Lists) : Type 0 where
  pub kid : l.kid ≡ 0
  pub kids : l.kids ≡ l.edges + 1
  pub fail : l.fail ≡ 2 * l.edges + 1
  pub loc : l.loc ≡ 3 * l.edges + 2
  pub one : l.one ≡ 4 * l.edges + 2
  pub marks : l.marks ≡ 5 * l.edges + 2

-- the words of these tables
abbrev pub list_words : ℕ → ℕ
list_words n = 6 * n + 3

module _ (l : Lists) (s : List ℕ) where
  abbrev pub kid_in : List ℕ
  kid_in = table s l.kid (l.edges + 1)

  abbrev pub kids_in : List ℕ
  kids_in = table s l.kids l.edges

  abbrev pub fail_in : List ℕ
  fail_in = table s l.fail (l.edges + 1)

  abbrev pub loc_in : List ℕ
  loc_in = table s l.loc (l.edges + 1)

  abbrev pub one_in : List ℕ
  one_in = table s (l.one + 1) l.edges

  abbrev pub marks_in : List ℕ
  marks_in = table s (l.marks + 1) l.edges

-- word w tells class t: its first edge, and which class follows it
pub record Told (L : List (List ℕ)) (w t : ℕ) : Type 0 where
  pub edge : ℕ
  pub after : ℕ
  pub word : w ≡ packed edge after
  pub small : edge < 16384
  pub earlier : after < t
  pub class : class_at L t ≡ edge ∷ class_at L after

-- `one`: word t - 1 tells class t
abbrev pub Ones : List (List ℕ) → List ℕ → Type 0
Ones L ones = (t : ℕ) → t < class_count L → Told L (get_or ones t 0) (suc t)

-- `loc` at first: the classes that are whole listed paths are dead, and no others
pub record Whole (L : List (List ℕ)) (locs : List ℕ) : Type 0 where
  pub dead : (t : ℕ) → t ≤ class_count L → Memᴰ (class_at L t) L → get_or locs t 0 ≡ dead_word
  pub other : (t : ℕ) → t ≤ class_count L → (Memᴰ (class_at L t) L → ⊥) → get_or locs t 0 ≡ 0

-- the children of class u stand in `kids` from here on, and before there
abbrev pub kid_from : List ℕ → ℕ → ℕ
kid_from kid zero = 0
kid_from kid (suc u) = get_or kid u 0

abbrev pub kid_to : List ℕ → ℕ → ℕ
kid_to kid u = get_or kid u 0

-- word w tells which class an edge and then class u are
pub record Kid (L : List (List ℕ)) (u w : ℕ) : Type 0 where
  pub edge : ℕ
  pub child : ℕ
  pub word : w ≡ packed edge child
  pub small : edge < 16384
  pub some : 0 < child
  pub inside : child ≤ class_count L
  pub class : class_at L child ≡ edge ∷ class_at L u

-- `kid` and `kids`: all children of each class, by their edges
pub record Kids (L : List (List ℕ)) (kid kids : List ℕ) : Type 0 where
  pub up : (u : ℕ) → u ≤ class_count L → kid_from kid u ≤ kid_to kid u
  pub within : (u : ℕ) → u ≤ class_count L → kid_to kid u ≤ class_count L
  pub each : (u : ℕ) → u ≤ class_count L → (i : ℕ) → kid_from kid u ≤ i → i < kid_to kid u → Kid L u (get_or kids i 0)
  pub every : (u t e : ℕ) → u ≤ class_count L → t ≤ class_count L → class_at L t ≡ e ∷ class_at L u
      → (i : ℕ) × (kid_from kid u ≤ i) × (i < kid_to kid u) × (get_or kids i 0 ≡ packed e t)
  pub rises : (u : ℕ) → u ≤ class_count L → (i j : ℕ) → kid_from kid u ≤ i → i < j → j < kid_to kid u
      → (a b c d : ℕ) → get_or kids i 0 ≡ packed a b → get_or kids j 0 ≡ packed c d → b < 32768 → d < 32768 → a < c

-- `fail`, for the classes below n
abbrev pub FailsBelow : List (List ℕ) → List ℕ → ℕ → Type 0
FailsBelow L fails n = (t : ℕ) → 0 < t → t < n → t ≤ class_count L → Fails L t (get_or fails t 0)

-- `loc`: w is where class t stands among the marks at its node, or that it is dead
pub record Located (starts : List ℕ) (L : List (List ℕ)) (t w : ℕ) : Type 0 where
  pub dead : begins L (class_at L t) ≡ true → w ≡ dead_word
  pub alive : begins L (class_at L t) ≡ false → w < dead_word
  pub stands : begins L (class_at L t) ≡ false → (v : ℕ) → At starts v (class_at L t)
      → (w < length (marks_at starts L v)) × (get_or (marks_at starts L v) w [] ≡ class_at L t)

abbrev pub Locs : List ℕ → List (List ℕ) → List ℕ → Type 0
Locs starts L locs = (t : ℕ) → t ≤ class_count L → Located starts L t (get_or locs t 0)

-- the class of one edge, for each edge
abbrev pub Roots : List (List ℕ) → List ℕ → Type 0
Roots L roots = (e : ℕ) → e < length roots → Root L e (get_or roots e 0)

-- how many marks there are at a node, besides the empty one
abbrev pub marks_for : List ℕ → List (List ℕ) → ℕ → ℕ
marks_for starts L v = length (marks_at starts L v) - 1

-- marks are numbered from 1, by node and then in order: how many there are at the nodes below v
abbrev pub marks_below : List ℕ → List (List ℕ) → ℕ → ℕ
marks_below starts L v = sum (map (marks_for starts L) (upto v 0))

-- `marks`: the class of mark j at node v
abbrev pub ClassesOf : List ℕ → List (List ℕ) → List ℕ → Type 0
ClassesOf starts L classes =
    (v j : ℕ) → v < 4096 → j < marks_for starts L v
    → (get_or classes (marks_below starts L v + j) 0 ≤ class_count L)
    × (class_at L (get_or classes (marks_below starts L v + j) 0) ≡ get_or (marks_at starts L v) (suc j) [])

-- there is room for the tables, and not more classes than listed edges
pub record Held (L : List (List ℕ)) (l : Lists) (s : List ℕ) : Type 0 where
  pub laid : Laid l
  pub room : list_words l.edges ≤ length s
  pub few_edges : l.edges ≤ 16384
  pub few : class_count L ≤ l.edges

-- something holds of a list of paths
abbrev pub OfSome : (List (List ℕ) → Type 0) → Type 0
OfSome P = (L : List (List ℕ)) × P L

-- the classes are numbered: there are so many, and `one` tells them
pub record Numbered (L : List (List ℕ)) (l : Lists) (s : List ℕ) (count : ℕ) : Type 0 where
  pub all : count ≡ class_count L
  pub held : Held L l s
  pub filled : Filled L
  pub ones : Ones L (one_in l s)

-- the children of classes can be searched
pub record Searchable (L : List (List ℕ)) (l : Lists) (s : List ℕ) : Type 0 where
  pub held : Held L l s
  pub filled : Filled L
  pub kids : Kids L (kid_in l s) (kids_in l s)

-- failure links can be followed from class f on
pub record Followable (L : List (List ℕ)) (l : Lists) (s : List ℕ) (f : ℕ) : Type 0 where
  pub search : Searchable L l s
  pub inside : f ≤ class_count L
  pub fails : FailsBelow L (fail_in l s) (suc f)

-- what linking the classes asks: every edge of a class is one of the design's, of which there are m
pub record Linkable (L : List (List ℕ)) (l : Lists) (s : List ℕ) (count m : ℕ) : Type 0 where
  pub numbered : Numbered L l s count
  pub whole : Whole L (loc_in l s)
  pub kids : Kids L (kid_in l s) (kids_in l s)
  pub known : (t e : ℕ) (w : List ℕ) → t ≤ class_count L → class_at L t ≡ e ∷ w → e < m

-- and what it gives
pub record Linked (starts : List ℕ) (L : List (List ℕ)) (l : Lists) (s : List ℕ) (roots live : List ℕ) : Type 0 where
  pub fails : FailsBelow L (fail_in l s) (suc (class_count L))
  pub locs : Locs starts L (loc_in l s)
  pub singles : Roots L roots
  pub lives : (v : ℕ) → v < length live → get_or live v 0 ≡ marks_for starts L v

-- w is the word of e ∷ m, a list that starts at the start of e: that it begins with a listed path, or else where its mark stands there
pub record Stepped (starts : List ℕ) (L : List (List ℕ)) (e : ℕ) (m : List ℕ) (w : ℕ) : Type 0 where
  pub dead : begins L (e ∷ m) ≡ true → w ≡ dead_word
  pub alive : begins L (e ∷ m) ≡ false → w < dead_word
  pub stands : begins L (e ∷ m) ≡ false
      → (w < length (marks_at starts L (get_or starts e 0))) × (get_or (marks_at starts L (get_or starts e 0)) w [] ≡ mark L (e ∷ m))

-- what placing the marks asks: all classes are linked, and `first` has how many marks the nodes below each have
pub record Placeable (starts : List ℕ) (L : List (List ℕ)) (l : Lists) (s : List ℕ) (first : List ℕ) (count : ℕ) : Type 0 where
  pub numbered : Numbered L l s count
  pub locs : Locs starts L (loc_in l s)
  pub known : (t e : ℕ) (w : List ℕ) → t ≤ class_count L → class_at L t ≡ e ∷ w → e < length starts
  pub nodes : (k : ℕ) → get_or starts k 0 < 4096
  pub size : length first ≡ 4097
  pub firsts : (v : ℕ) → v ≤ 4096 → get_or first v 0 ≡ marks_below starts L v

-- the tables by which a step is taken
pub record Automaton (starts : List ℕ) (L : List (List ℕ)) (l : Lists) (s : List ℕ) : Type 0 where
  pub search : Searchable L l s
  pub fails : FailsBelow L (fail_in l s) (suc (class_count L))
  pub locs : Locs starts L (loc_in l s)
  pub classes : ClassesOf starts L (marks_in l s)

-- a found class, or else another one
abbrev pub or_else : ℕ → ℕ → ℕ
or_else zero r = r
or_else (suc c) r = suc c

-- what numbering the classes asks: no class is noted as dead yet
pub record Startable (l : Lists) (listed lengths s : List ℕ) : Type 0 where
  pub list : Listable listed lengths
  pub laid : Laid l
  pub size : l.edges ≡ length listed
  pub room : list_words l.edges ≤ length s
  pub none : (t : ℕ) → t ≤ l.edges → get_or (loc_in l s) t 0 ≡ 0

-- and what it gives
pub record Started (l : Lists) (listed lengths s t : List ℕ) (count : ℕ) : Type 0 where
  pub all : count ≡ class_count (paths_of (path_list listed lengths))
  pub ones : Ones (paths_of (path_list listed lengths)) (one_in l t)
  pub whole : Whole (paths_of (path_list listed lengths)) (loc_in l t)
  pub frame : Frame s t l.loc (2 * l.edges + 1)

-- what the tables of a list ask: every listed edge is one of the design's, nodes are below 4,096, and nothing is noted yet
pub record Makeable (l : Lists) (starts listed lengths s roots first : List ℕ) : Type 0 where
  pub list : Listable listed lengths
  pub laid : Laid l
  pub size : l.edges ≡ length listed
  pub room : list_words l.edges ≤ length s
  pub known : (i : ℕ) → i < length listed → get_or listed i 0 < length starts
  pub nodes : (k : ℕ) → get_or starts k 0 < 4096
  pub roots_room : length starts ≤ length roots
  pub roots_none : (e : ℕ) → get_or roots e 0 ≡ 0
  pub first_room : length first ≡ 4097
  pub first_none : (v : ℕ) → get_or first v 0 ≡ 0

-- and what they are
pub record Made (l : Lists) (starts listed lengths s roots first s' roots' first' : List ℕ) : Type 0 where
  pub frame : Frame s s' 0 (list_words l.edges)
  pub automaton : Automaton starts (paths_of (path_list listed lengths)) l s'
  pub roots_size : length roots' ≡ length roots
  pub first_size : length first' ≡ length first
  pub singles : Roots (paths_of (path_list listed lengths)) roots'
  pub firsts : (v : ℕ) → v ≤ 4096 → get_or first' v 0 ≡ marks_below starts (paths_of (path_list listed lengths)) v
