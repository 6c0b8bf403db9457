use Rattle.std.proofs.Common.{length, drop, not, sym, ap, ◌∙◌}
use Rattle.std.specs.Option.{unwrap_or}
use Rattle.lines.specs.Words.{blank}
use Rattle.lines.proofs.Cuts.{found_or_len, skip_is}
use Rattle.lines.proofs.words.skip_blanks.Goals as goal

pub returns : goal.returns
returns c =
    let text = c.args.text.now in
    let at = c.unwrap_or.ensures ∙ ap (λ o. unwrap_or o (length text)) c.find_solid.ensures ∙ found_or_len (λ b. not (blank b)) text in
    c.split_at.ensures.back ∙ ap (λ n. drop n text) at ∙ sym (skip_is text)
