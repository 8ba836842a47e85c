-- `parser::Reader::read_tokens` meets its contract. The outer loop's invariant: `at` is inside the text; what was read before it
-- is kept, and the rest decides. The inner one's: the bytes of the name before `end` may be in one, and those behind decide.
use Prim.Native.Nat.{◌+◌}
use mathlib.Core.Path.{refl, sym, ◌∙◌}
use native.Mathlib.Omega.{arith}
use Rattle.grammar.proofs.Runs.{start_within, next-none, next-run}
use Rattle.tokens.proofs.RunBytes.{
  leading,
  scanning_first,
  scanning_inside,
  scanning_next,
  scanning_stop,
  scanning_passed,
  scanning_breaks,
  pair_inside,
  pair_next,
  run_no_token,
  run_token,
  run-named,
}
use Rattle.parser.proofs.Reading.{not_refused, going_first, going_ended, no_token, broken, going_on}
use Rattle.parser.proofs.Reader.read_tokens.Goals as goal

pub tokens-init : goal.tokens-init
tokens-init c = record { inside = omega arith; going = λ s sound k. going_first c.args.text.now s _ _ _ _ _ sound k }

pub overflow_add-start : goal.overflow_add-start
overflow_add-start c =
    let t = c.args.text.now in
    let l = c.tokens in
    let f = c.gap_of in
    omega (arith, start_within t l.at l.invariant.inside f.result f.ensures)

pub overflow_add-from : goal.overflow_add-from
overflow_add-from c =
    let t = c.args.text.now in
    let l = c.tokens in
    let f = c.gap_of in
    let w = start_within t l.at l.invariant.inside f.result f.ensures in
    let d = leading t (l.at + f.result) _ w c.lead_of.ensures in
    omega (arith, d.within)

pub loop-end-init : goal.loop-end-init
loop-end-init c =
    let t = c.args.text.now in
    let l = c.tokens in
    let f = c.gap_of in
    let w = start_within t l.at l.invariant.inside f.result f.ensures in
    let d = leading t (l.at + f.result) _ w c.lead_of.ensures in
    scanning_first d

pub loop-end-smaller-then-is_name_pair : goal.loop-end-smaller-then-is_name_pair
loop-end-smaller-then-is_name_pair c =
    let e = c.loop-end in
    omega (arith, pair_inside e.invariant (sym c.is_name_pair.ensures ∙ c.if-is_name_pair.true))

pub loop-end-preserved-then-is_name_pair : goal.loop-end-preserved-then-is_name_pair
loop-end-preserved-then-is_name_pair c =
    let e = c.loop-end in
    pair_next e.invariant (sym c.is_name_pair.ensures ∙ c.if-is_name_pair.true)

pub loop-end-smaller : goal.loop-end-smaller
loop-end-smaller c =
    let e = c.loop-end in
    omega (arith, scanning_inside e.invariant c.class_at.ensures c.in-Name.is)

pub loop-end-preserved : goal.loop-end-preserved
loop-end-preserved c =
    let e = c.loop-end in
    scanning_next e.invariant c.class_at.ensures c.in-Name.is

pub token-requires : goal.token-requires
token-requires c =
    let t = c.args.text.now in
    let l = c.tokens in
    let f = c.gap_of in
    let w = start_within t l.at l.invariant.inside f.result f.ensures in
    let d = leading t (l.at + f.result) _ w c.lead_of.ensures in
    let e = c.loop-end in
    let b = c.class_at.ensures in
    let stop = scanning_stop e.invariant b c.in-Separator.is in
    let p = scanning_passed e.invariant b c.in-Separator.is in
    run-named d e.end stop _ c.kind_of-kind.ensures p

pub tokens-smaller : goal.tokens-smaller
tokens-smaller c =
    let t = c.args.text.now in
    let l = c.tokens in
    let f = c.gap_of in
    let e = c.loop-end in
    let b = c.class_at.ensures in
    let stop = scanning_stop e.invariant b c.in-Separator.is in
    let n = next-run t l.at l.invariant.inside f.result f.ensures c.if-text-start.false e.end stop in
    omega (arith, n.after, n.some, n.within)

pub tokens-preserved : goal.tokens-preserved
tokens-preserved c =
    let t = c.args.text.now in
    let l = c.tokens in
    let f = c.gap_of in
    let w = start_within t l.at l.invariant.inside f.result f.ensures in
    let d = leading t (l.at + f.result) _ w c.lead_of.ensures in
    let e = c.loop-end in
    let b = c.class_at.ensures in
    let stop = scanning_stop e.invariant b c.in-Separator.is in
    let p = scanning_passed e.invariant b c.in-Separator.is in
    let n = next-run t l.at l.invariant.inside f.result f.ensures c.if-text-start.false e.end stop in
    let x = run_token d e.end stop _ c.kind_of-kind.ensures p in
    record {
      inside = n.within;
      going = λ s sound k.
          let g = l.invariant.going s sound k in
          going_on g n _ _ _ _ _ _ _ x (c.token.ensures g.reading g.sound g.keeps) (not_refused _ c.in_default.not-Err);
    }

pub returns-then-text-start : goal.returns-then-text-start
returns-then-text-start c = λ s sound k.
    let t = c.args.text.now in
    let l = c.tokens in
    let f = c.gap_of in
    let g = l.invariant.going s sound k in
    going_ended g c.ended.result (next-none t l.at l.invariant.inside f.result f.ensures c.if-text-start.true)
    (c.ended.ensures g.reading g.sound g.keeps)

pub returns-in-Other : goal.returns-in-Other
returns-in-Other c = λ s sound k.
    let t = c.args.text.now in
    let l = c.tokens in
    let f = c.gap_of in
    let w = start_within t l.at l.invariant.inside f.result f.ensures in
    let d = leading t (l.at + f.result) _ w c.lead_of.ensures in
    let e = c.loop-end in
    let n = next-run t l.at l.invariant.inside f.result f.ensures c.if-text-start.false _ refl in
    no_token (l.invariant.going s sound k) n (run_no_token d (scanning_breaks e.invariant c.class_at.ensures c.in-Other.is))

pub returns-in-Err : goal.returns-in-Err
returns-in-Err c = λ s sound k.
    let t = c.args.text.now in
    let l = c.tokens in
    let f = c.gap_of in
    let w = start_within t l.at l.invariant.inside f.result f.ensures in
    let d = leading t (l.at + f.result) _ w c.lead_of.ensures in
    let e = c.loop-end in
    let b = c.class_at.ensures in
    let stop = scanning_stop e.invariant b c.in-Separator.is in
    let p = scanning_passed e.invariant b c.in-Separator.is in
    let n = next-run t l.at l.invariant.inside f.result f.ensures c.if-text-start.false e.end stop in
    let x = run_token d e.end stop _ c.kind_of-kind.ensures p in
    let g = l.invariant.going s sound k in
    broken g n _ _ _ _ _ _ _ x (c.token.ensures g.reading g.sound g.keeps) _ c.in-Err.is
