-- The trie of the left sides, as the code holds it while it compiles or checks a table: a node for each state, in the
-- order of the states' numbers. Its root is the empty string: node 0, or node 1 where a rule has the mark. Then
-- node 0 is the mark alone, with the root as parent and failure state; no symbol leads to it.
--
--     parent      the state without its last symbol
--     symbol      that symbol
--     depth       how many symbols the state has
--     youngest    its youngest child, 0 if none
--     older       its parent's next older child, 0 if none
--     children    how many children it has
--     matched     match word: first of the rules whose left side is the state itself, in the end the table's
--     failure     failure state, once it is known
use Rattle.std.specs.Prelude.{
  ℕ,
  zero,
  suc,
  ◌+◌,
  ◌≤◌,
  ◌<◌,
  ◌≡◌,
  Bool,
  cond,
  ◌⊎◌,
  Option,
  Some,
  None,
  eqb,
  length,
  get_or,
  set,
  take,
}
use mathlib.Core.List.{List, [], ◌∷◌, ◌++◌, flat_map}
use Rattle.rewriting.specs.Rules.{Rule, RuleSet, rule}
use Rattle.trie.specs.declared.Node.{Node}
use Rattle.trie.specs.declared.Walked.{Walked}
use Rattle.layout.specs.States.{mark, pattern, prefixes, known, numbered, first_states, states, number}
use Rattle.layout.specs.Table.{match_word}
use Rattle.layout.specs.Words.{root, text, own, failure_state, transition}

-- a node that is not in use yet
abbrev pub unused : Node
unused = record { parent = 0; symbol = 0; depth = 0; youngest = 0; older = 0; children = 0; matched = 0; failure = 0 }

module _ (t : List Node) (c : ℕ) where
  abbrev pub node : Node
  node = get_or t c unused

  abbrev pub parent : ℕ
  parent = node.parent

  abbrev pub symbol : ℕ
  symbol = node.symbol

  abbrev pub depth : ℕ
  depth = node.depth

  abbrev pub youngest : ℕ
  youngest = node.youngest

  abbrev pub older : ℕ
  older = node.older

  abbrev pub children : ℕ
  children = node.children

  abbrev pub matched : ℕ
  matched = node.matched

  abbrev pub failure : ℕ
  failure = node.failure

-- how many of 0, 1, .., n - 1 pass the test
unfoldable pub tally : (ℕ → Bool) → ℕ → ℕ
tally test zero = 0
tally test (suc n) = tally test n + cond (test n) 1 0

-- c stands behind the root, and its parent is q
abbrev pub ChildOf : ℕ → List Node → ℕ → ℕ → Type 0
ChildOf root t q c = (root < c) × (parent t c ≡ q)

-- The links of n nodes, those behind the root being children: a parent comes before its children, and the youngest child and
-- then the next older one, again and again, meet every child of a node. A link of 0 leads to none.
pub record Linked (root : ℕ) (t : List Node) (n : ℕ) : Type 0 where
  pub size : n ≤ length t
  pub up : (c : ℕ) → root < c → c < n → parent t c < c
  pub young : (q : ℕ) → q < n → youngest t q < n
  pub young_of : (q : ℕ) → q < n → 0 < youngest t q → ChildOf root t q (youngest t q)
  pub young_last : (q c : ℕ) → q < n → root < c → c < n → parent t c ≡ q → c ≤ youngest t q
  pub old : (c : ℕ) → root < c → c < n → older t c < c
  pub old_of : (c : ℕ) → root < c → c < n → 0 < older t c → ChildOf root t (parent t c) (older t c)
  pub old_next : (c b : ℕ) → root < c → c < n → root < b → b < c → parent t b ≡ parent t c → b ≤ older t c

-- t holds the trie of the states s, of a rule set with so many symbols. Nodes behind the last are unused.
pub record Trie (root : ℕ) (s : List (List ℕ)) (symbols : ℕ) (t : List Node) : Type 0 where
  pub linked : Linked root t (length s)
  pub low_root : root ≤ 1
  pub some_node : root < length s
  pub root-empty : get_or s root [] ≡ []
  pub mark_alone : 0 < root → get_or s 0 [] ≡ mark ∷ []
  pub mark_parent : parent t 0 ≡ root
  pub mark_failure : failure t 0 ≡ root
  pub few : symbols ≤ mark
  pub once : (i : ℕ) → i < length s → number s (get_or s i []) ≡ i
  pub made : (c : ℕ) → root < c → c < length s → get_or s c [] ≡ get_or s (parent t c) [] ++ symbol t c ∷ []
  pub small : (c : ℕ) → root < c → c < length s → symbol t c < symbols
  pub deep : (c : ℕ) → c < length s → depth t c ≡ length (get_or s c [])
  pub counted : (c : ℕ) → c < length s → children t c ≡ tally (λ a. known s (get_or s c [] ++ a ∷ [])) symbols
  pub clear : (c : ℕ) → length s ≤ c → node t c ≡ unused

-- the trie of all left sides of a rule set
abbrev pub TrieOf : RuleSet → List Node → Type 0
TrieOf set t = Trie (root set.rules) (states set.rules) set.symbols t

-- each node's match word is that of the lowest rule whose left side is the state itself
abbrev pub Owned : List Rule → List (List ℕ) → List Node → Type 0
Owned rules s t = (c : ℕ) → c < length s → matched t c ≡ match_word (own rules (get_or s c []))

-- node c holds its failure state
abbrev pub RightFailure : List Rule → List Node → ℕ → Type 0
RightFailure rules t c = failure t c ≡ number (states rules) (failure_state rules (text rules c))

-- the failure state of node c, found from that of its parent and the parent's failure state's row; rows of so many symbols
unfoldable pub failure_by : List Node → List ℕ → ℕ → ℕ → ℕ → ℕ
failure_by t rows symbols root c =
    cond (eqb (parent t c) root) root (transition rows symbols (failure t (parent t c)) (symbol t c))

-- c is the child of q by symbol a, one of n nodes
pub record IsChild (root : ℕ) (t : List Node) (n q a c : ℕ) : Type 0 where
  pub behind : root < c
  pub node : c < n
  pub of : parent t c ≡ q
  pub by : symbol t c ≡ a

-- r is the child of q by symbol a, or none where q has none
abbrev pub ChildOr : ℕ → List Node → ℕ → ℕ → ℕ → Option ℕ → Type 0
ChildOr root t n q a (Some c) = IsChild root t n q a c
ChildOr root t n q a None = (c : ℕ) → IsChild root t n q a c → ⊥

-- t with node n as a child of q by symbol a
unfoldable pub added : List Node → ℕ → ℕ → ℕ → List Node
added t n q a =
    set
    (set t n (record (node t n) { parent = q; symbol = a; depth = depth t q + 1; older = youngest t q }))
    q (record (node t q) { youngest = n; children = children t q + 1 })

-- A symbol was followed from node q: to a child that was there, or to a node that was added.
pub record Found (root : ℕ) (t : List Node) (n q a : ℕ) (w : Walked) (t' : List Node) : Type 0 where
  pub child : IsChild root t n q a w.node
  pub nodes : w.nodes ≡ n
  pub kept : t' ≡ t

pub record New (root : ℕ) (t : List Node) (n q a : ℕ) (w : Walked) (t' : List Node) : Type 0 where
  pub none : (c : ℕ) → IsChild root t n q a c → ⊥
  pub node : w.node ≡ n
  pub nodes : w.nodes ≡ n + 1
  pub grown : t' ≡ added t n q a

abbrev pub Followed : ℕ → List Node → ℕ → ℕ → ℕ → Walked → List Node → Type 0
Followed root t n q a w t' = Found root t n q a w t' ⊎ New root t n q a w t'

-- t with rule i as the rule of node q, unless a lower rule has it already
unfoldable pub claimed : List Node → ℕ → ℕ → List Node
claimed t q i = cond (eqb (matched t q) 0) (set t q (record (node t q) { matched = i + 1 })) t

-- the node that rule i's left side is followed from: the mark's, or the root
unfoldable pub first_node : RuleSet → ℕ → ℕ
first_node set i = cond (rule set.rules i).marked 0 (root set.rules)

-- t with the first nodes: node 0 has the root as parent and failure state, and the mark's depth where it is not the root
unfoldable pub planted : ℕ → List Node → List Node
planted root t = set t 0 (record (node t 0) { parent = root; depth = root; failure = root })

-- the states of the first i rules, behind the first states of all
unfoldable pub states_of : RuleSet → ℕ → List (List ℕ)
states_of set i = numbered (first_states set.rules) (flat_map (λ r. prefixes (pattern r)) (take i set.rules))

-- t holds the trie of the first i rules, with the rules that their left sides end in
pub record Grown (set : RuleSet) (i : ℕ) (t : List Node) : Type 0 where
  pub trie : Trie (root set.rules) (states_of set i) set.symbols t
  pub owned : Owned (take i set.rules) (states_of set i) t

-- The left side of rule i was followed: each of its prefixes has a node, and it ends in the node w says.
pub record FollowedRule (set : RuleSet) (i : ℕ) (w : Walked) (t : List Node) : Type 0 where
  pub trie : Trie (root set.rules) (states_of set (suc i)) set.symbols t
  pub owned : Owned (take i set.rules) (states_of set (suc i)) t
  pub nodes : w.nodes ≡ length (states_of set (suc i))
  pub node : w.node < w.nodes
  pub ends : get_or (states_of set (suc i)) w.node [] ≡ pattern (rule set.rules i)

-- k nodes are enough for the mark and the root, and one for each symbol of a left side
abbrev pub Roomy : RuleSet → ℕ → Type 0
Roomy set k = 2 + length (flat_map (λ r. r.left) set.rules) ≤ k

-- t holds the trie of all rules, which has n nodes
pub record Built (set : RuleSet) (n : ℕ) (t : List Node) : Type 0 where
  pub trie : TrieOf set t
  pub owned : Owned set.rules (states set.rules) t
  pub nodes : n ≡ length (states set.rules)
