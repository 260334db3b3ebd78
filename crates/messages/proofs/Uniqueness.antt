-- No text is the text of two messages.
use Rattle.std.proofs.Common.{◌≡◌, ℕ, ◌∙◌, List, [], ◌∷◌, Some, None, map, refl, sym, ap, ap₂}
use Rattle.std.specs.Prelude.{codes}
use Rattle.serde_json.specs.Data.{string}
use Rattle.serde_json.specs.Find.{get}
use Rattle.serde_json.specs.Read.{read}
use Rattle.sudo_words.specs.Command.{cmnd_text}
use Rattle.sudo_words.specs.Moment.{IsMoment, SpellsMoment}
use Rattle.sudo_words.proofs.CommandLemmas.{one_cmnds}
use Rattle.sudo_words.proofs.MomentTexts.{one_spelled}
use Rattle.messages.specs.Fields.{RequestFields, VerdictFields, IsRequest, IsVerdict}
use Rattle.messages.specs.private.Members.{strings, request_value, verdict_value, value_of}
use Rattle.messages.specs.Wire.{kind_text, moment_text, wire, IsMessage}
use Rattle.messages.specs.declared.message.Message.{Message}
use Rattle.messages.specs.declared.message.Message.TheVariants.{Request, Verdict}
use Rattle.messages.proofs.KindLemmas.{one_kind}
use Rattle.messages.proofs.PlainTexts.{moment_spelled}
use Rattle.messages.proofs.Readings.{text_of_message}

pub one_moment : (s t : ℕ) → IsMoment s → IsMoment t → moment_text s ≡ moment_text t → s ≡ t
one_moment s t a b same =
    let other : SpellsMoment (moment_text s) t = rw same (moment_spelled t b) in
    one_spelled (moment_text s) s t (moment_spelled s a) other

pub one_list : (vs ws : List (List ℕ)) → strings vs ≡ strings ws → vs ≡ ws
one_list [] [] e = refl
one_list [] (w ∷ ws) e = absurd cc
one_list (v ∷ vs) [] e = absurd cc
one_list (v ∷ vs) (w ∷ ws) e =
    let first : v ≡ w = cc in
    let rest : strings vs ≡ strings ws = cc in
    ap₂ (λ (x : List ℕ) (xs : List (List ℕ)). x ∷ xs) first (one_list vs ws rest)

-- a value is the value of one request
one_request : (r s : RequestFields) → IsRequest r → IsRequest s → request_value r ≡ request_value s → r ≡ s
one_request r s a b e =
    let at_text : moment_text r.at ≡ moment_text s.at = cc in
    let by : r.by ≡ s.by = cc in
    let ceiling : r.ceiling ≡ s.ceiling = cc in
    let cmnd_texts : strings (map cmnd_text r.cmnds) ≡ strings (map cmnd_text s.cmnds) = cc in
    let from_text : moment_text r.from ≡ moment_text s.from = cc in
    let host_texts : strings r.hosts ≡ strings s.hosts = cc in
    let number : r.no ≡ s.no = cc in
    let runas : r.runas ≡ s.runas = cc in
    let until_text : moment_text r.until ≡ moment_text s.until = cc in
    let at = one_moment r.at s.at a.at b.at at_text in
    let cmnds = one_cmnds r.cmnds s.cmnds a.cmnds.1 b.cmnds.1 (one_list (map cmnd_text r.cmnds) (map cmnd_text s.cmnds) cmnd_texts) in
    let from = one_moment r.from s.from a.from b.from from_text in
    let hosts = one_list r.hosts s.hosts host_texts in
    let until = one_moment r.until s.until a.until b.until until_text in
    λ i. record { at = at i; by = by i; ceiling = ceiling i; cmnds = cmnds i; from = from i; hosts = hosts i; no = number i; runas = runas i; until = until i }

-- a value is the value of one verdict
one_verdict : (v w : VerdictFields) → IsVerdict v → IsVerdict w → verdict_value v ≡ verdict_value w → v ≡ w
one_verdict v w a b e =
    let at_text : moment_text v.at ≡ moment_text w.at = cc in
    let by : v.by ≡ w.by = cc in
    let number : v.no ≡ w.no = cc in
    let asker : v.of ≡ w.of = cc in
    let at = one_moment v.at w.at a.at b.at at_text in
    let kind_name : kind_text v.kind ≡ kind_text w.kind = cc in
    let kind = one_kind v.kind w.kind kind_name in
    λ i. record { at = at i; by = by i; kind = kind i; no = number i; of = asker i }

-- a value is the value of one message: only requests have a ceiling
pub one_value : (m n : Message) → IsMessage m → IsMessage n → value_of m ≡ value_of n → m ≡ n
one_value (Request r) (Request s) a b e = ap Request (one_request r s a b e)
one_value (Request r) (Verdict w) a b e = let ceiling : Some (string r.ceiling) ≡ None = ap (get (codes "ceiling")) e in absurd cc
one_value (Verdict v) (Request s) a b e = let ceiling : None ≡ Some (string s.ceiling) = ap (get (codes "ceiling")) e in absurd cc
one_value (Verdict v) (Verdict w) a b e = ap Verdict (one_verdict v w a b e)

pub one_message : (m n : Message) → IsMessage m → IsMessage n → wire m ≡ wire n → m ≡ n
one_message m n a b same =
    let values : Some (value_of m) ≡ Some (value_of n) = sym (text_of_message m a).reads ∙ ap read same ∙ (text_of_message n b).reads in
    let value : value_of m ≡ value_of n = cc in
    one_value m n a b value
