-- `text::read_rules` meets its contract.
use mathlib.Core.List.{flat_map}
use Rattle.std.proofs.lemmas.Result.{err_from_is_err_and}
use Rattle.grammar.specs.Grammar.{begun}
use Rattle.grammar.specs.Read.{read_text}
use Rattle.grammar.proofs.Sound.{sound_begun}
use Rattle.text.proofs.Writing.{small, refused_1, refused_image, refused_names}
use Rattle.text.proofs.Writing.{text_bad, text_good, good_outcome, good_names, parts}
use Rattle.text.proofs.read_rules.Goals as goal

pub returns-then-text-gt-TEXT_BYTES : goal.returns-then-text-gt-TEXT_BYTES
returns-then-text-gt-TEXT_BYTES c =
    let a = c.args in
    let p = parts _ _ _ _ (refused_1 a.text.now a.image.now a.names.now c.if-text-gt-TEXT_BYTES.true) in record {
      answer = p.0;
      image = p.1.0;
      names = p.1.1;
    }

pub returns-then-image-lt-IMAGE_BYTES : goal.returns-then-image-lt-IMAGE_BYTES
returns-then-image-lt-IMAGE_BYTES c =
    let a = c.args in
    let p = parts _ _ _ _
    (refused_image a.text.now a.image.now a.names.now c.if-text-gt-TEXT_BYTES.false c.if-image-lt-IMAGE_BYTES.true) in record {
      answer = p.0;
      image = p.1.0;
      names = p.1.1;
    }

pub returns-then-names-lt-NAMES_BYTES : goal.returns-then-names-lt-NAMES_BYTES
returns-then-names-lt-NAMES_BYTES c =
    let a = c.args in
    let p = parts _ _ _ _
    (refused_names a.text.now a.image.now a.names.now c.if-text-gt-TEXT_BYTES.false c.if-image-lt-IMAGE_BYTES.false
    c.if-names-lt-NAMES_BYTES.true) in record {
      answer = p.0;
      image = p.1.0;
      names = p.1.1;
    }

pub write_image-size-requires : goal.write_image-size-requires
unfolding read_text
write_image-size-requires c =
    let a = c.args in
    let short = c.if-text-gt-TEXT_BYTES.false in
    let image_room = c.if-image-lt-IMAGE_BYTES.false in
    let names_room = c.if-names-lt-NAMES_BYTES.false in
    let g = text_good a.text.now a.image.now a.names.now short image_room names_room _ _ _ _ _ _
    c.in_ok-read_tokens.was (c.read_tokens.ensures begun sound_begun c.new-reader.ensures) in record {
      small = small g.sound g.complete g.keeps a.image.now image_room;
      room = image_room;
    }

pub returns-in_err-read_tokens : goal.returns-in_err-read_tokens
unfolding read_text
returns-in_err-read_tokens c =
    let a = c.args in
    let short = c.if-text-gt-TEXT_BYTES.false in
    let image_room = c.if-image-lt-IMAGE_BYTES.false in
    let names_room = c.if-names-lt-NAMES_BYTES.false in
    let back = err_from_is_err_and c.from_residual.result c.from_residual.ensures.1 in
    let p = parts _ _ _ _
    (text_bad a.text.now a.image.now a.names.now short image_room names_room _ _ _ _ _ _ _ c.in_err-read_tokens.was
    (c.read_tokens.ensures begun sound_begun c.new-reader.ensures)) in record {
      answer = rw (back.1, back.2) p.0;
      image = p.1.0;
      names = p.1.1;
    }

pub returns : goal.returns
unfolding read_text flat_map
returns c =
    let a = c.args in
    let short = c.if-text-gt-TEXT_BYTES.false in
    let image_room = c.if-image-lt-IMAGE_BYTES.false in
    let names_room = c.if-names-lt-NAMES_BYTES.false in
    let g = text_good a.text.now a.image.now a.names.now short image_room names_room _ _ _ _ _ _
    c.in_ok-read_tokens.was (c.read_tokens.ensures begun sound_begun c.new-reader.ensures) in
    let w = c.write_image-size.ensures g.reading g.sound g.complete g.keeps in
    let p = parts _ _ _ _ (good_outcome a.text.now a.image.now a.names.now short image_room names_room g) in
    rw (
      w.0,
      w.1,
      c.write_names.ensures,
      good_names a.text.now a.image.now a.names.now short image_room names_room g,
    ) (record {
      answer = p.0;
      image = p.1.0;
      names = p.1.1;
    })
