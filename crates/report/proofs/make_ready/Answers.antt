-- `make_ready` meets its contract: a valid image is compiled, and both areas have 2,048 places.
use Prim.Native.Nat.{ℕ}
use mathlib.Core.Path.{◌≡◌, refl, sym, ap, ◌∙◌}
use native.Mathlib.Omega.{arith}
use Rattle.std.specs.Prelude.{Ok, Err, Result, None, Some, Option, length}
use Rattle.std.specs.Result.{result_ok}
use Rattle.layout.specs.declared.Refusal.{Refusal}
use Rattle.layout.specs.Image.{read}
use Rattle.layout.specs.Table.{table_of}
use Rattle.layout.specs.Refusals.{numbered}
use Rattle.machine.specs.Areas.{Monitor}
use Rattle.machine.specs.Calls.{Fresh}
use Rattle.monitor.specs.Lent.{lent}
use Rattle.printing.specs.Watch.{fresh_monitor}
use Rattle.printing.proofs.Starting.{compile_answers, compile_writes, is-fresh}
use Rattle.report.proofs.make_ready.Goals as goal
use Rattle.report.proofs.make_ready.Goals.{After-ok, After-fresh-begun}

-- what is not refused
taken : (r : Result ℕ Refusal) (n : ℕ) → numbered r ≡ Ok n → result_ok r ≡ Some n
taken (Ok m) n e = cc
taken (Err refusal) n e = cc

same_number : (m n : ℕ) → ◌≡◌ {A = Option ℕ} (Some m) (Some n) → m ≡ n
same_number m n e = cc

some_number : (n : ℕ) → ◌≡◌ {A = Option ℕ} None (Some n) → ⊥
some_number n e = cc

compiled : (c : After-ok) → c.ok.result ≡ Some (length (table_of (read (c.args.image.now))))
compiled c =
    let image = c.args.image.now in
    c.ok.ensures.value
    ∙ taken _ _ (c.compile.ensures.answer ∙ compile_answers image c.args.table.now c.requires (omega arith))

never : (c : After-ok) → c.ok.result ≡ None → ⊥
never c e = some_number _ (sym e ∙ compiled c)

pub returns-in_err-size-clause-answer : goal.returns-in_err-size-clause-answer
returns-in_err-size-clause-answer c = absurd (never (goal.at.returns-in_err-size-clause-answer c).After-ok c.in_err-size.was)

pub returns-in_err-size-clause-table : goal.returns-in_err-size-clause-table
returns-in_err-size-clause-table c = absurd (never (goal.at.returns-in_err-size-clause-table c).After-ok c.in_err-size.was)

pub returns-in_err-size-clause-bytes : goal.returns-in_err-size-clause-bytes
returns-in_err-size-clause-bytes c = absurd (never (goal.at.returns-in_err-size-clause-bytes c).After-ok c.in_err-size.was)

pub returns-in_err-size-clause-words : goal.returns-in_err-size-clause-words
returns-in_err-size-clause-words c = absurd (never (goal.at.returns-in_err-size-clause-words c).After-ok c.in_err-size.was)

-- the monitor is a fresh one
is_made :
    (c : After-fresh-begun)
    → lent c.fresh-begun.result.head c.fresh-begun.new.bytes c.fresh-begun.new.words ≡ fresh_monitor
is_made c =
    ap (λ (f : Fresh). f.monitor) c.fresh-begun.ensures
    ∙ is-fresh c.args.bytes.now c.args.words.now (omega arith) (omega arith)

pub returns-clause-table : goal.returns-clause-table
returns-clause-table c =
    c.compile.ensures.area
    ∙ compile_writes (c.args.image.now) c.args.table.now c.requires (omega arith)

pub returns-clause-answer : goal.returns-clause-answer
returns-clause-answer c =
    let at = goal.at.returns-clause-answer c in
    let written = same_number _ _ (sym c.in_ok-size.was ∙ compiled at.After-ok) in
    rw (written, ap (λ (m : Monitor). m.head) (is_made at.After-fresh-begun)) refl

pub returns-clause-bytes : goal.returns-clause-bytes
returns-clause-bytes c = ap (λ (m : Monitor). m.bytes) (is_made (goal.at.returns-clause-bytes c).After-fresh-begun)

pub returns-clause-words : goal.returns-clause-words
returns-clause-words c = ap (λ (m : Monitor). m.words) (is_made (goal.at.returns-clause-words c).After-fresh-begun)
