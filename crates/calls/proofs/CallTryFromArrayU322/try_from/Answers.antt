-- Two numbers are read as their call.
use Rattle.std.proofs.Common.{sym, arith}
use Rattle.calls.proofs.Numbers.{going_on, offering}
use Rattle.calls.proofs.CallTryFromArrayU322.try_from.Goals as goal

pub returns-in-0 : goal.returns-in-0
returns-in-0 c = (omega (arith, c.in-0.is), sym (going_on _ _ c.in-0.is))

pub returns-in-1-to-256 : goal.returns-in-1-to-256
returns-in-1-to-256 c = (omega (arith, c.in-1-to-256), sym (offering _ _ (omega (arith, c.in-1-to-256))))
