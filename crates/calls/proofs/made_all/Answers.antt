-- `made_all` meets its contract: the invariant is `Playing` (proofs/Playing.antt), and that the areas keep their lengths.
use Rattle.std.proofs.Common.{◌≡◌, ◌+◌, ◌*◌, ◌/◌, [], length, refl, ◌∙◌, arith}
use Rattle.machine.specs.Run.{no_counts}
use Rattle.layout.specs.Refusals.{refused_by}
use Rattle.calls.proofs.Numbers.{pair_at}
use Rattle.calls.proofs.Playing.{playing_first, playing_call, playing_sums, playing_next, playing_all}
use Rattle.calls.proofs.made_all.Goals as goal

pub loop-pair-init : goal.loop-pair-init
unfolding no_counts
loop-pair-init c = record {
  playing = playing_first _ _ _ _ _ c.requires;
  answer = refl;
  bytes = refl;
  words = refl;
}

pub unreachable-requires : goal.unreachable-requires
unreachable-requires c =
    let l = c.loop-pair in
    let i = l.pair-index in
    let numbers = c.args.numbers.now in
    let pair = pair_at (length numbers / 2) i numbers _ c.as_chunks.ensures.front (omega arith) [] in
    let call = playing_call l.invariant.playing (omega arith) in
    omega (arith, pair.first, call.first, c.in_default.ensures)

pub with-played-requires : goal.with-played-requires
with-played-requires c =
    let l = c.loop-pair in
    let i = l.pair-index in
    let numbers = c.args.numbers.now in
    let pair = pair_at (length numbers / 2) i numbers _ c.as_chunks.ensures.front (omega arith) [] in
    let read = rw (pair.first, pair.second) at c.in-Ok.ensures.1 in
    playing_sums l.invariant.playing (omega arith) read c.made-called.ensures

pub loop-pair-preserved : goal.loop-pair-preserved
loop-pair-preserved c =
    let l = c.loop-pair in
    let i = l.pair-index in
    let numbers = c.args.numbers.now in
    let pair = pair_at (length numbers / 2) i numbers _ c.as_chunks.ensures.front (omega arith) [] in
    let next : 2 * (i + 1) ≡ 2 * i + 2 = omega arith in
    let read = rw (pair.first, pair.second) at c.in-Ok.ensures.1 in
    rw (next, c.with-played.ensures) record {
      playing = playing_next l.invariant.playing (omega arith) read c.made-called.ensures;
      answer = l.invariant.answer;
      bytes = c.made-called.auto.bytes ∙ l.invariant.bytes;
      words = c.made-called.auto.words ∙ l.invariant.words;
    }

pub returns : goal.returns
unfolding refused_by
returns c =
    let l = c.loop-pair in
    rw l.invariant.answer (playing_all l.invariant.playing (omega arith))
