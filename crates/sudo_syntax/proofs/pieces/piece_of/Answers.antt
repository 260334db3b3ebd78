use Rattle.std.proofs.Common.{ℕ, List, sym, subst, ◌∙◌}
use Rattle.std.proofs.lemmas.Bool.{false≢true}
use Rattle.sudo_policy.specs.Lines.{is_no_hash, IsBody}
use Rattle.sudo_syntax.proofs.TokenLemmas.{first_is}
use Rattle.sudo_syntax.proofs.CutLemmas.{cut_all}
use Rattle.sudo_policy.proofs.LineTexts.{hash_bad, hash_no_front}
use Rattle.sudo_syntax.proofs.pieces.piece_of.Goals as goal
use Rattle.sudo_syntax.proofs.pieces.piece_of.Goals.{else-is_before_comment-via-then-is_before_comment+else-is_comment}
use Rattle.sudo_syntax.proofs.pieces.piece_of.Goals.{else-is_before_comment-via-else-is_before_comment}

pub returns-in_default-clause-body : goal.returns-in_default-clause-body
returns-in_default-clause-body c = λ body h.
    let s = c.cut_body in
    let all = cut_all is_no_hash c.args.line.now s.result.0.now s.result.1.now s.ensures c.in_default.len_below in
    c.without_comment.ensures.body body (subst (λ (l : List ℕ). IsBody l body) all h)

pub returns-else-is_before_comment-clause-body : goal.returns-else-is_before_comment-clause-body
returns-else-is_before_comment-clause-body c =
    let s = c.cut_body in
    hash_bad c.args.line.now s.result.0.now s.result.1.now s.ensures _ _ (first_is s.result.1.now c.in-len1-up.len_at_least)
    (elim c.else-is_before_comment.branch [
      | else-is_before_comment-via-then-is_before_comment+else-is_comment w ↦ λ _ is. false≢true (sym w.if-is_comment.false ∙ w.is_comment.ensures ∙ is)
      | else-is_before_comment-via-else-is_before_comment w ↦ λ is _. false≢true (sym w.if-is_before_comment.false ∙ c.is_before_comment.ensures ∙ is)
    ])

pub returns-else-is_before_comment-clause-front : goal.returns-else-is_before_comment-clause-front
returns-else-is_before_comment-clause-front c =
    let s = c.cut_body in
    hash_no_front c.args.line.now s.result.0.now s.result.1.now s.ensures c.in-len1-up.len_at_least
