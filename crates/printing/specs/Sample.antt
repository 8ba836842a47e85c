-- Document 01's sample: an input, and what `watch` prints for it. `sample-printed` (proofs/Computed.antt) computes the one
-- from the other.
use Rattle.std.specs.Prelude.{ℕ, List}
use Rattle.printing.specs.Ascii.{bytes}

abbrev pub sample_input : List ℕ
sample_input =
    bytes "events lock take free . lock take -> held . held free -> #epsilon . take -> #fail . % lock take free take"

abbrev pub sample_output : List ℕ
sample_output = bytes "lock quiet 1 0 lock\ntake quiet 2 1 held\nfree quiet 1 1 -\ntake #fail 1 1 -\n"
