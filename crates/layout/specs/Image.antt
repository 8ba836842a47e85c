-- The rule image: how a rule set is written as bytes, read back, and when bytes are a rule image.
--
--     byte 0      S                      byte 4 + 4 i    length of rule i's left side
--     byte 1      R, number of rules     byte 5 + 4 i    kind: 0 string, 1 verdict
--     byte 2      V                      byte 6 + 4 i    right length or verdict
--     byte 3      E                      byte 7 + 4 i    mark: 0 none, 1 marked
--     from 4 + 4 R on: for each rule its left symbols and, for kind 0, its right symbols
use Rattle.std.specs.Prelude.{ℕ, zero, suc, ◌+◌, ◌*◌, Bool, true, false, cond, ◌&&◌, eqb, length, get_or, take, drop}
use mathlib.Core.List.{List, [], ◌∷◌, ◌++◌, flat_map}
use Rattle.rewriting.specs.Lists.{same}
use Rattle.rewriting.specs.Rules.{Right, Put, Close, symbols_of, Rule, RuleSet, in_range}

-- "kind (0 string, 1 verdict)"
unfoldable pub kind : Right → ℕ
kind (Put v) = 0
kind (Close v) = 1

-- "right length or verdict"
unfoldable pub length_or_verdict : Right → ℕ
length_or_verdict (Put v) = length v
length_or_verdict (Close v) = v

-- document 02, No. 1: the mark "sets the rule's fourth contents byte to 1"
unfoldable pub mark_byte : Bool → ℕ
mark_byte true = 1
mark_byte false = 0

-- "4 bytes a rule: left length; kind (0 string, 1 verdict); right length or verdict; 0", or 1 for a mark
unfoldable pub contents : Rule → List ℕ
contents r = length r.left ∷ kind r.right ∷ length_or_verdict r.right ∷ mark_byte r.marked ∷ []

-- "each rule's left symbols and, for kind 0, its right symbols, one byte each"
unfoldable pub body : Rule → List ℕ
body r = r.left ++ symbols_of r.right

-- "Longest: 1,284 bytes."
abbrev pub image_most : ℕ
image_most = 1284

-- "Contents first, then bodies. Bytes 0..3: S, number of rules R, V, E. .. Nothing follows." It has at most
-- `image_most` bytes (`longest`, proofs/Image.antt).
unfoldable pub image_of : RuleSet → List ℕ
image_of set =
    set.symbols ∷ length set.rules ∷ set.verdicts ∷ set.events
    ∷ (flat_map contents set.rules ++ flat_map body set.rules)

-- Reading is total: contents that are not there are 0, and a body that is cut short gives fewer symbols. Either way the
-- image of what is read is not what was read.

-- a right side, by its kind k, its length or verdict n, and the bytes b behind the left symbols
unfoldable pub read_right : ℕ → ℕ → List ℕ → Right
read_right k n b = cond (eqb k 1) (Close n) (Put (take n b))

-- the first rule of the contents c and the bodies b
unfoldable pub read_rule : List ℕ → List ℕ → Rule
read_rule c b =
    record {
      marked = eqb (get_or c 3 0) 1;
      left = take (get_or c 0 0) b;
      right = read_right (get_or c 1 0) (get_or c 2 0) (drop (get_or c 0 0) b);
    }

-- the first n rules of the contents c and the bodies b
unfoldable pub read_rules : ℕ → List ℕ → List ℕ → List Rule
read_rules zero c b = []
read_rules (suc n) c b = read_rule c b ∷ read_rules n (drop 4 c) (drop (length (body (read_rule c b))) b)

-- the rule set that the bytes b are read as
unfoldable pub read : List ℕ → RuleSet
read b =
    record {
      symbols = get_or b 0 0;
      events = get_or b 3 0;
      verdicts = get_or b 2 0;
      rules = read_rules (get_or b 1 0) (drop 4 b) (drop (4 + 4 * get_or b 1 0) b);
    }

-- Refusal 7 is "the image breaks the layout or a range above": b keeps both when it is read as a rule set in range
-- whose image it is, byte for byte. (`valid_image`, proofs/Image.antt: exactly the images of rule sets in range do.)
unfoldable pub valid : List ℕ → Bool
valid b = in_range (read b) && same (image_of (read b)) b
