use Rattle.std.proofs.Common.{◌≡◌, ◌∙◌, sym}
use Rattle.sudo_words.proofs.ArgLemmas.{arg_text_length}
use Rattle.sudo_words.proofs.lawful.arg_length.Goals as goal

pub returns-clause-length : goal.returns-clause-length
returns-clause-length c =
    let text : c.as_bytes-text.result.now ≡ c.args.arg.now = c.as_bytes-text.ensures.value ∙ c.as_str.ensures.value in
    rw (c.count_escaped.ensures, text) (sym (arg_text_length c.args.arg.now))
