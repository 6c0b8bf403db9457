use Rattle.std.proofs.Common.{length, take, drop, sym, ap, ◌∙◌}
use Rattle.std.specs.Option.{unwrap_or}
use Rattle.lines.specs.Words.{blank, front, back}
use Rattle.lines.proofs.Cuts.{found_or_len, front_is, back_is}
use Rattle.lines.proofs.words.split_word.Goals as goal

pub returns : goal.returns
returns c =
    let text = c.skip_blanks-text.result.now in
    let at = c.unwrap_or.ensures ∙ ap (λ o. unwrap_or o (length text)) c.find_blank.ensures ∙ found_or_len blank text in
    record {
      first = c.split_at.ensures.front ∙ ap (λ n. take n text) at ∙ sym (front_is text) ∙ ap front c.skip_blanks-text.ensures;
      after = c.split_at.ensures.back ∙ ap (λ n. drop n text) at ∙ sym (back_is text) ∙ ap back c.skip_blanks-text.ensures;
    }
