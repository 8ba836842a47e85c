-- `table::compare::Parts::unlike` meets its contract. The loop's invariant: n of the first a words are unlike the others.
use Prim.Native.Nat.{ℕ, ◌+◌}
use mathlib.Core.Path.{◌≡◌, refl, sym, ap, ◌∙◌}
use mathlib.Core.Bool.{not}
use native.Mathlib.Omega.{arith}
use lib.Dec.{eqb}
use Rattle.trie.specs.Nodes.{tally}
use Rattle.layout.specs.Words.{transition}
use Rattle.trie.proofs.Tally.{tally_differ, tally_equal}
use Rattle.table.proofs.compare.Parts.unlike.Goals.{else-self-own, then-self-own}
use Rattle.table.proofs.compare.Parts.unlike.Goals as goal

pub loop-a-init : goal.loop-a-init
unfolding tally
loop-a-init g c = (omega arith, omega arith, λ other same. refl)

pub overflow_add-n : goal.overflow_add-n
overflow_add-n g c = omega (arith, c.loop-a.invariant.0, c.loop-a.invariant.1, c.args.self.few)

pub loop-a-preserved : goal.loop-a-preserved
loop-a-preserved g c =
    let own : ℕ → ℕ = λ k. transition c.args.self.rows.now c.args.self.width c.args.q k in
    let turn = c.loop-a in
    elim c.if-self-own.branch [
      | then-self-own w ↦ (
        omega (arith, c.loop-a-test.true),
        omega (arith, w.n-is, turn.invariant.1),
        λ other same.
            let is = same turn.a c.word.result c.loop-a-test.true c.word.ensures in
            w.n-is ∙ ap (λ (n : ℕ). n + 1) (turn.invariant.2 other same)
            ∙ sym (tally_differ own other turn.a (λ (p : own turn.a ≡ other turn.a). w.if-self-own.true (p ∙ sym is))),
      )
      | else-self-own w ↦ (
        omega (arith, c.loop-a-test.true),
        omega (arith, w.n-is, turn.invariant.1),
        λ other same.
            let is = same turn.a c.word.result c.loop-a-test.true c.word.ensures in
            w.n-is ∙ turn.invariant.2 other same ∙ sym (tally_equal own other turn.a (w.if-self-own.false ∙ is)),
      )
    ]

pub returns : goal.returns
returns g c = λ other same.
    let done : c.loop-a.a ≡ c.args.self.width = omega (arith, c.loop-a.invariant.0, c.loop-a-test.false) in
    c.loop-a.invariant.2 other same
    ∙ ap (tally (λ k. not (eqb (transition c.args.self.rows.now c.args.self.width c.args.q k) (other k)))) done
