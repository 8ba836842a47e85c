-- Rows and match words, as they are filled from the trie: first each row has the node's children alone, then state by
-- state, short before long, what the state lacks is taken from its failure state.
use Rattle.std.specs.Prelude.{ℕ, ◌+◌, ◌*◌, ◌≤◌, ◌<◌, ◌≡◌, Bool, true, cond, ◌&&◌, ◌||◌, eqb, ltb, length, get_or, set}
use mathlib.Core.List.{List, [], ◌∷◌, ◌++◌, flat_map}
use Rattle.rewriting.specs.Rules.{RuleSet}
use Rattle.layout.specs.States.{next, matching, known, states, number}
use Rattle.layout.specs.Table.{match_word, row}
use Rattle.layout.specs.Words.{root, text, own, transition, own_or}
use Rattle.trie.specs.declared.Node.{Node}
use Rattle.trie.specs.Nodes.{node, matched, TrieOf, RightFailure}

-- the child of state v by symbol a, 0 where it has none
unfoldable pub child_number : List (List ℕ) → List ℕ → ℕ → ℕ
child_number s v a = cond (known s (v ++ a ∷ [])) (number s (v ++ a ∷ [])) 0

-- each row has the node's children, and 0 for each symbol by which it has none
pub record Laid (set : RuleSet) (rows : List ℕ) : Type 0 where
  pub size : length rows ≡ length (states set.rules) * set.symbols
  pub table : (c a : ℕ) → c < length (states set.rules) → a < set.symbols
      → transition rows set.symbols c a ≡ child_number (states set.rules) (text set.rules c) a

-- each 0 among the first n words of the root's row has become the root's number, and all else is as it was
pub record RootFilled (rows rows' : List ℕ) (symbols root n : ℕ) : Type 0 where
  pub size : length rows' ≡ length rows
  pub own : (a : ℕ) → a < n → transition rows' symbols root a ≡ own_or (transition rows symbols root a) root
  pub before : (k : ℕ) → k < root * symbols → get_or rows' k 0 ≡ get_or rows k 0
  pub behind : (k : ℕ) → root * symbols + n ≤ k → get_or rows' k 0 ≡ get_or rows k 0

-- each 0 among the first n words of row q has become the word of row f, and all else is as it was
pub record Merged (rows rows' : List ℕ) (symbols q f n : ℕ) : Type 0 where
  pub size : length rows' ≡ length rows
  pub own : (a : ℕ) → a < n
      → transition rows' symbols q a ≡ own_or (transition rows symbols q a) (transition rows symbols f a)
  pub before : (k : ℕ) → k < q * symbols → get_or rows' k 0 ≡ get_or rows k 0
  pub behind : (k : ℕ) → q * symbols + n ≤ k → get_or rows' k 0 ≡ get_or rows k 0

-- t with the failure state f at node q and, where that had no match word, that of f
unfoldable pub noted : List Node → ℕ → ℕ → List Node
noted t q f = set t q (record (node t q) { matched = own_or (matched t q) (matched t f); failure = f })

-- state c's turn has come, where state q of the states of length d is next
unfoldable pub reached : List (List ℕ) → ℕ → ℕ → ℕ → Bool
reached s d q c = ltb (length (get_or s c [])) d || (eqb (length (get_or s c [])) d && ltb c q)

-- The states that are done have their failure state and the match word and row of the table, the others their own left
-- side's match word and the row of their children.
pub record Filling (set : RuleSet) (done : ℕ → Bool) (t : List Node) (rows : List ℕ) : Type 0 where
  pub trie : TrieOf set t
  pub size : length rows ≡ length (states set.rules) * set.symbols
  pub matches : (c : ℕ) → c < length (states set.rules)
      → matched t c
      ≡ cond (done c) (match_word (matching set.rules (text set.rules c))) (match_word (own set.rules (text set.rules c)))
  pub failures : (c : ℕ) → (c ≡ root set.rules → ⊥) → c < length (states set.rules) → done c ≡ true → RightFailure set.rules t c
  pub table : (c a : ℕ) → c < length (states set.rules) → a < set.symbols
      → transition rows set.symbols c a
      ≡ cond (done c) (number (states set.rules) (next set.rules (text set.rules c) a))
      (child_number (states set.rules) (text set.rules c) a)

-- the states of length below d are done, and those of length d below state q
abbrev pub FillingAt : RuleSet → ℕ → ℕ → List Node → List ℕ → Type 0
FillingAt set d q t rows = Filling set (reached (states set.rules) d q) t rows

-- each node's match word is the table's
abbrev pub Matched : RuleSet → List Node → Type 0
Matched set t = (c : ℕ) → c < length (states set.rules) → matched t c ≡ match_word (matching set.rules (text set.rules c))

-- what is there when the rows are filled: the rows of the table, and its match words in the nodes
pub record Filled (set : RuleSet) (t t' : List Node) (rows : List ℕ) : Type 0 where
  pub size : length t' ≡ length t
  pub table : rows ≡ flat_map (row set) (states set.rules)
  pub matches : Matched set t'
