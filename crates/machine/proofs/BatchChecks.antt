-- Which refusal a batch has, by what the code tests.
-- Assumes nothing.
use Prim.Native.Nat.{ℕ, ◌≤◌, ◌<◌}
use mathlib.Core.Path.{◌≡◌}
use mathlib.Core.Bool.{true}
use Rattle.std.specs.Prelude.{None, Some}
use mathlib.Core.List.{List}
use lib.ListN.{length}
use borrow.Author.Tests.{le-leb, lt-leb}
use Rattle.rewriting.proofs.Ranges.{ranges}
use Rattle.layout.specs.Image.{read, valid}
use Rattle.layout.specs.Refusals.{refusal}
use Rattle.layout.proofs.Image.{valid-in_range}
use Rattle.layout.proofs.Refusals.{refusal_append_none, refusal_append_some}
use Rattle.machine.specs.Run.{no_counts}
use Rattle.machine.specs.Areas.{Monitor}
use Rattle.machine.specs.Calls.{lent_checks, fuel_check}
use Rattle.machine.specs.Batch.{offers, batch_checks, batched, batch_of}
use Rattle.machine.specs.Lent.{Passed}
use Rattle.machine.proofs.Stepping.{passed_valid}

module _ (capacity : ℕ) (image table : List ℕ) (m : Monitor) where
  -- What has passed is a valid image, so it has few rules.
  pub passed_image : Passed capacity image table m → (valid image ≡ true) × (length (read image).rules ≤ 64)
  passed_image p =
      let good : valid image ≡ true = passed_valid capacity image table m p in
      (good, (ranges (read image) (valid-in_range image good)).few_rules)

  module _ (events : List ℕ) (fuel : ℕ) (answers : List ℕ) where
    -- 7, 9, 10 or 11
    pub batch_lent_refused : (n : ℕ) → refusal (lent_checks capacity image table m) ≡ Some n
        → record { refused = Some n; stop = 0; accepted = 0; counts = no_counts; answers = answers; monitor = m }
        ≡ batch_of capacity image table m events fuel answers
    unfolding batch_of batched batch_checks
    batch_lent_refused n e = rw (refusal_append_some _ _ n e)

    module _ (passed : Passed capacity image table m) where
      -- 13
      pub batch_fuel_refused : 65535 < fuel
          → record { refused = Some 13; stop = 0; accepted = 0; counts = no_counts; answers = answers; monitor = m }
          ≡ batch_of capacity image table m events fuel answers
      unfolding batch_of batched batch_checks fuel_check refusal
      batch_fuel_refused h = rw (refusal_append_none _ _ passed, lt-leb _ _ h)

      module _ (taken : fuel ≤ 65535) where
        -- 16
        pub batch_many_refused : 65535 < length events
            → record { refused = Some 16; stop = 0; accepted = 0; counts = no_counts; answers = answers; monitor = m }
            ≡ batch_of capacity image table m events fuel answers
        unfolding batch_of batched batch_checks fuel_check refusal
        batch_many_refused h = rw (refusal_append_none _ _ passed, le-leb _ _ taken, lt-leb _ _ h)

        pub batch_room_refused : length events ≤ 65535 → length answers < length events
            → record { refused = Some 16; stop = 0; accepted = 0; counts = no_counts; answers = answers; monitor = m }
            ≡ batch_of capacity image table m events fuel answers
        unfolding batch_of batched batch_checks fuel_check refusal
        batch_room_refused few h = rw (refusal_append_none _ _ passed, le-leb _ _ taken, le-leb _ _ few, lt-leb _ _ h)

        -- none
        pub batch-taken : length events ≤ 65535 → length events ≤ length answers
            → batched None m answers (offers capacity image table m events fuel)
            ≡ batch_of capacity image table m events fuel answers
        unfolding batch_of batch_checks fuel_check refusal
        batch-taken few room = rw (refusal_append_none _ _ passed, le-leb _ _ taken, le-leb _ _ few, le-leb _ _ room)
