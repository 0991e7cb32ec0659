-- The numbering of classes, level by level: what the functions say of the numbers in their slices. At a level some last edges of each path that waits
-- are numbered. A word of `who` has the path and the class of these edges; an item has the edge before them too.
use Rattle.std.specs.Prelude.{ℕ, zero, suc, ◌+◌, ◌-◌, ◌*◌, ◌/◌, ◌%◌, ◌≤◌, ◌<◌, ◌≡◌, not, List, eqb, length, get_or, take}
use Rattle.timing.specs.Lists.{sum, one_if}
use Rattle.removal.specs.declared.classes.Lists.{Lists}
use Rattle.removal.specs.Table.{Frame}
use Rattle.removal.specs.Tables.{Laid, list_words, dead_word}

-- where path k ends in the flat list
abbrev pub end_of : List ℕ → ℕ → ℕ
end_of lengths k = sum (take (suc k) lengths)

-- the path of a word or an item, and what stands before it: the class of a word, the key of an item
abbrev pub path_of : ℕ → ℕ
path_of x = x % 2048

abbrev pub key_of : ℕ → ℕ
key_of x = x / 2048

-- the ends of paths are known, and each path waits with class 0
pub record Begun (lengths ends who : List ℕ) : Type 0 where
  pub last : (k : ℕ) → k < length lengths → get_or ends k 0 ≡ end_of lengths k
  pub path : (k : ℕ) → k < length lengths → get_or who k 0 ≡ k

-- the edge d places before the end of the path of each word is there
pub record Edged (listed ends who : List ℕ) (d : ℕ) : Type 0 where
  pub path : (i : ℕ) → i < length who → path_of (get_or who i 0) < length ends
  pub long : (i : ℕ) → i < length who → d ≤ get_or ends (path_of (get_or who i 0)) 0
  pub edge : (i : ℕ) → i < length who → get_or ends (path_of (get_or who i 0)) 0 - d < length listed

-- the item of a word: (edge * 32768 + class) * 2048 + path
abbrev pub item_of : List ℕ → List ℕ → ℕ → ℕ → ℕ
item_of listed ends d w = get_or listed (get_or ends (path_of w) 0 - d) 0 * 67108864 + w

-- items in order, so that keys never fall, with a path of its own each
pub record Keyed (lengths items : List ℕ) : Type 0 where
  pub path : (i : ℕ) → i < length items → path_of (get_or items i 0) < length lengths
  pub small : (i : ℕ) → i < length items → get_or items i 0 < 1099511627776
  pub rises : (i j : ℕ) → i < j → j < length items → get_or items i 0 < get_or items j 0
  pub apart : (i j : ℕ) → i < j → j < length items → path_of (get_or items i 0) ≡ path_of (get_or items j 0) → ⊥

-- the key before item i, or a number that is no key
unfoldable pub key_before : List ℕ → ℕ → ℕ
key_before items zero = 18446744073709551615
key_before items (suc i) = key_of (get_or items i 0)

-- the number of classes when i items are passed: one more for each that has not the key before it
unfoldable pub id_after : ℕ → List ℕ → ℕ → ℕ
id_after start items zero = start
id_after start items (suc i) = id_after start items i + one_if (not (eqb (key_of (get_or items i 0)) (key_before items i)))

-- what numbering a level asks
pub record Numberable (lengths items who s : List ℕ) (l : Lists) (start : ℕ) : Type 0 where
  pub keyed : Keyed lengths items
  pub laid : Laid l
  pub room : list_words l.edges ≤ length s
  pub few_edges : l.edges ≤ 16384
  pub few : start + length items ≤ l.edges
  pub fits : length items ≤ length who

-- the first n items are numbered: `one` has their keys, with nothing else changed there
pub record KeysTold (items s t : List ℕ) (l : Lists) (start n : ℕ) : Type 0 where
  pub keys : (i : ℕ) → i < n → get_or t (l.one + id_after start items (suc i)) 0 ≡ key_of (get_or items i 0)
  pub kept : (u : ℕ) → 0 < u → u ≤ start → get_or t (l.one + u) 0 ≡ get_or s (l.one + u) 0

-- the classes of those whose paths end at d edges are dead, with nothing else changed
pub record EndsDead (lengths items s t : List ℕ) (l : Lists) (d start n : ℕ) : Type 0 where
  pub dead : (i : ℕ) → i < n → get_or lengths (path_of (get_or items i 0)) 0 ≡ d → get_or t (l.loc + id_after start items (suc i)) 0 ≡ dead_word
  pub other : (u : ℕ) → u ≤ l.edges → ((i : ℕ) → i < n → get_or lengths (path_of (get_or items i 0)) 0 ≡ d → id_after start items (suc i) ≡ u → ⊥)
      → get_or t (l.loc + u) 0 ≡ get_or s (l.loc + u) 0

-- the others wait with their classes
abbrev pub word_of : ℕ → List ℕ → ℕ → ℕ
word_of start items i = id_after start items (suc i) * 2048 + path_of (get_or items i 0)

pub record OthersWait (lengths items who : List ℕ) (d start n left : ℕ) : Type 0 where
  pub each : (j : ℕ) → j < left → (i : ℕ) × (i < n) × (get_or lengths (path_of (get_or items i 0)) 0 ≡ d → ⊥) × (get_or who j 0 ≡ word_of start items i)
  pub every : (i : ℕ) → i < n → (get_or lengths (path_of (get_or items i 0)) 0 ≡ d → ⊥) → (j : ℕ) × (j < left) × (get_or who j 0 ≡ word_of start items i)
  pub apart : (a b : ℕ) → a < b → b < left → path_of (get_or who a 0) ≡ path_of (get_or who b 0) → ⊥

-- the first n items are passed
pub record Passed (lengths items s t who : List ℕ) (l : Lists) (d start n left id : ℕ) : Type 0 where
  pub count : id ≡ id_after start items n
  pub fewer : left ≤ n
  pub told : KeysTold items s t l start n
  pub ended : EndsDead lengths items s t l d start n
  pub waiting : OthersWait lengths items who d start n left
  pub frame : Frame s t l.loc (2 * l.edges + 1)
