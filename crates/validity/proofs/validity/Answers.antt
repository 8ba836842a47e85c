-- `validity::validity` meets its contract: what fails a check is not valid, and what passes the others is valid exactly when its
-- symbols are below S.
use Rattle.std.proofs.Common.{◌≡◌, Bool, cond, ap, sym, ◌∙◌, arith, get_or}
use Rattle.rewriting.specs.Lists.{below}
use Rattle.layout.specs.Image.{valid}
use Rattle.layout.proofs.ImageCheck.{HeaderOf, valid_header, valid_room, decided, denied, refused, unannounced, checked}
use Rattle.validity.proofs.Contents.{Apart, bodies_begin, contents_fit, announced_alone, marks_alone, root_by_marks}
use Rattle.validity.proofs.validity.Goals.{In_ok-contents, After-all_below}
use Rattle.validity.proofs.validity.Goals as goal

pub returns-in_default : goal.returns-in_default
returns-in_default c = let b = c.args.bytes.now in sym (refused b (λ e. omega (arith, valid_room b e)))

pub returns-then-not-header_in_range : goal.returns-then-not-header_in_range
returns-then-not-header_in_range c =
    let b = c.args.bytes.now in
    let h = c.header_in_range in
    sym (refused b (λ e. denied h.result c.if-not-header_in_range.true h.ensures (valid_header b e)))

pub returns-in_err-contents : goal.returns-in_err-contents
returns-in_err-contents c =
    let b = c.args.bytes.now in
    let short = c.in_err-contents.ensures.cases in
    rw c.from_residual.ensures (sym (refused b (λ e. omega (arith, short, valid_room b e, c.from.ensures))))

apart : (c : In_ok-contents) → Apart c.args.bytes.now c.from.result c.in_ok-contents.contents.now c.in_ok-contents.bodies.now
apart c = let parts = c.in_ok-contents.ensures.cases in record {
  header = c.in-len4-up.len_at_least;
  fits = parts.0;
  front = parts.1;
  back = parts.2;
  size = parts.3;
}

pub returns-in_err-root : goal.returns-in_err-root
returns-in_err-root c =
    let b = c.args.bytes.now in
    let there = announced_alone _ _ _ _ (apart (goal.at.returns-in_err-root c).In_ok-contents) (get_or b 2 0) in
    rw c.from_residual-in_err-root.ensures (sym (unannounced b c.from.result c.from.ensures (sym there ∙ c.in_err-root.ensures)))

-- with the header and the contents in range, the symbols' range decides
told : (c : After-all_below)
    → Apart c.args.bytes.now c.from.result c.in_ok-contents.contents.now c.in_ok-contents.bodies.now
    → c.all_below.result ≡ valid c.args.bytes.now
told c p =
    let b = c.args.bytes.now in
    let n = c.from.result in
    let h = c.header_in_range in
    let header : HeaderOf b = decided h.result c.if-not-header_in_range.false h.ensures in
    let there = announced_alone _ _ _ _ p (get_or b 2 0) in
    c.all_below.ensures
    ∙ ap (below (get_or b 0 0)) (bodies_begin _ _ _ _ p)
    ∙ checked b n c.from.ensures header (contents_fit _ _ _ _ p) (sym there ∙ c.in_ok-root.ensures.0)

pub returns-then-not-all_below : goal.returns-then-not-all_below
returns-then-not-all_below c =
    let at = goal.at.returns-then-not-all_below c in
    sym (told at.After-all_below (apart at.In_ok-contents)) ∙ c.if-not-all_below.true

pub invariant_of-result : goal.invariant_of-result
invariant_of-result c =
    let at = goal.at.invariant_of-result c in record {
      valid = sym (told at.After-all_below (apart at.In_ok-contents)) ∙ c.if-not-all_below.false;
    }

pub invariant_of-result-2 : goal.invariant_of-result-2
invariant_of-result-2 c = record {
  rooted = c.in_ok-root.ensures.1
      ∙ ap (λ (t : Bool). cond t 1 0) (marks_alone _ _ _ _ (apart (goal.at.invariant_of-result-2 c).In_ok-contents))
      ∙ sym (root_by_marks c.args.bytes.now c.from.result c.from.ensures);
}
