-- `write_decimal` meets its contract: the digits before the last, and the last behind them. The measure is the number.
use Prim.Native.Nat.{ℕ, ◌+◌, ◌/◌, ◌%◌, ◌≤◌, ◌<◌}
use mathlib.Core.Path.{◌≡◌, refl, sym, ap, ◌∙◌}
use mathlib.Core.List.{List, ◌∷◌, []}
use native.Mathlib.Omega.{arith}
use lib.ListN.{length, length-append}
use Rattle.rewriting.specs.Lists.{over}
use Rattle.printing.specs.Lines.{decimal}
use Rattle.printing.proofs.Decimals.{decimal_one, decimal_more, decimal-length}
use Rattle.lines.proofs.Writing.{over_none, over_byte}
use Rattle.lines.proofs.+write_decimal.Goals as goal

-- the digits before the last
before_last : (n : ℕ) → 10 ≤ n → length (decimal n) ≡ length (decimal (n / 10)) + 1
before_last n h = rw (decimal_more n h) (length-append (decimal (n / 10)) ((48 + n % 10) ∷ []))

one : (n : ℕ) → n < 10 → length (decimal n) ≡ 1
one n h = rw (decimal_one n h) refl

pub bounds-line-0 : goal.bounds-line-0
bounds-line-0 t c = omega (arith, one _ c.if-n-lt10.true, c.requires)

pub returns-then-n-lt10-clause-digits : goal.returns-then-n-lt10-clause-digits
returns-then-n-lt10-clause-digits t c = sym (one _ c.if-n-lt10.true)

pub returns-then-n-lt10-clause-line : goal.returns-then-n-lt10-clause-line
returns-then-n-lt10-clause-line t c =
    over_byte [] _ _ _ _ (sym (over_none _)) refl (omega (arith, one _ c.if-n-lt10.true, c.requires))
    ∙ ap (λ (v : List ℕ). over v c.args.line.now) (sym (decimal_one _ c.if-n-lt10.true))

pub write_decimal-end-requires : goal.write_decimal-end-requires
write_decimal-end-requires t c =
    let large = c.if-n-lt10.false in
    (rw (← c.decreases) (omega (arith, large)), omega (arith, before_last _ large, c.requires))

pub bounds-line-end : goal.bounds-line-end
bounds-line-end t c =
    let made = c.write_decimal-end.ensures in
    omega (arith, before_last _ c.if-n-lt10.false, c.requires, made.digits, c.write_decimal-end.auto.line)

pub overflow_add-result : goal.overflow_add-result
overflow_add-result t c =
    omega (arith, c.write_decimal-end.ensures.digits, decimal-length 19 (c.args.n / 10) (omega arith))

pub returns-clause-digits : goal.returns-clause-digits
returns-clause-digits t c = omega (arith, before_last _ c.if-n-lt10.false, c.write_decimal-end.ensures.digits)

pub returns-clause-line : goal.returns-clause-line
returns-clause-line t c =
    let made = c.write_decimal-end.ensures in
    over_byte _ _ _ _ _ made.line made.digits
    (omega (arith, before_last _ c.if-n-lt10.false, c.requires, made.digits, c.write_decimal-end.auto.line))
    ∙ ap (λ (v : List ℕ). over v c.args.line.now) (sym (decimal_more _ c.if-n-lt10.false))
