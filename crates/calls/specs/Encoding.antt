-- A list of calls as numbers, two a call: the first is 0 for a go-on and 1 + e for an offer of event e, the second is the
-- fuel.
use Rattle.std.specs.Prelude.{ℕ, zero, suc, ◌≤◌, ◌<◌, ◌≡◌, Bool, true, false, ◌&&◌, leb}
use Rattle.std.specs.Prelude.{List, [], ◌∷◌, length, get_or, Result, MatchResult}
use Rattle.layout.specs.declared.Refusal.{Refusal}
use Rattle.machine.specs.Calls.{Call, Offer, GoOn}
use Rattle.calls.specs.declared.Call as Declared

unfoldable pub decoded_call : ℕ → ℕ → Call
decoded_call zero fuel = GoOn fuel
decoded_call (suc event) fuel = Offer event fuel

-- the calls that the numbers are
unfoldable pub decoded_calls : List ℕ → List Call
decoded_calls [] = []
decoded_calls (first ∷ []) = []
decoded_calls (first ∷ fuel ∷ numbers) = decoded_call first fuel ∷ decoded_calls numbers

-- two numbers a call, and each event below 256. Every list of calls with such events is the calls of some numbers
-- (`all_lists`, proofs/Numbers.antt).
unfoldable pub pairs : List ℕ → Bool
pairs [] = true
pairs (first ∷ []) = false
pairs (first ∷ fuel ∷ numbers) = leb first 256 && pairs numbers

-- what 30 demands: the numbers are a list of calls, at most 4,294,967,295 of them, so that the sums fit 64 bits
unfoldable pub encodes : List ℕ → Bool
encodes numbers = leb (length numbers) 8589934590 && pairs numbers

-- the code's call, as the definitions have it
abbrev pub call_in : Declared.Call → Call
call_in (Declared.TheVariants.Offer event fuel) = Offer event fuel
call_in (Declared.TheVariants.GoOn fuel) = GoOn fuel

-- two numbers are read as their call, or refused: the first is above 256
abbrev pub Decodes : List ℕ → Result Declared.Call Refusal → Type 0
Decodes pair r =
    MatchResult r (λ call. (get_or pair 0 0 ≤ 256) × (call_in call ≡ decoded_call (get_or pair 0 0) (get_or pair 1 0)))
    (λ _. 256 < get_or pair 0 0)
