use Rattle.std.proofs.Common.{◌≡◌, ap, map}
use Rattle.std.specs.Prelude.{codes}
use Rattle.json.specs.Find.{get}
use Rattle.sudo_words.specs.Command.{cmnd_text}
use Rattle.messages.proofs.read.request_of.Goals as goal

pub returns-clause-only : goal.returns-clause-only
returns-clause-only c = λ r h e.
    let at : c.in_ok-at.at ≡ r.at = let is = c.in_ok-at.ensures.only r.at h.at (ap (get (codes "at")) e) in cc in
    let from : c.in_ok-from.from ≡ r.from = let is = c.in_ok-from.ensures.only r.from h.from (ap (get (codes "from")) e) in cc in
    let until : c.in_ok-until.until ≡ r.until = let is = c.in_ok-until.ensures.only r.until h.until (ap (get (codes "until")) e) in cc in
    let number : c.in_ok-no.no ≡ r.no = let is = c.in_ok-no.ensures.only r.no h.no (ap (get (codes "no")) e) in cc in
    let cmnd_list = c.in_ok-cmnds.ensures.only (map cmnd_text r.cmnds) (ap (get (codes "cmnds")) e) in
    let host_list = c.in_ok-hosts.ensures.only r.hosts (ap (get (codes "hosts")) e) in
    let by : c.in_ok-word_member.field-0 ≡ r.by = c.in_ok-word_member.ensures.only r.by h.by (ap (get (codes "by")) e) in
    let ceiling : c.in_ok-word_member-2.field-0 ≡ r.ceiling = c.in_ok-word_member-2.ensures.only r.ceiling h.ceiling (ap (get (codes "ceiling")) e) in
    let cmnds : c.in_ok-cmnds_of.field-0.items ≡ r.cmnds = c.in_ok-cmnds_of.ensures.only r.cmnds h.cmnds cmnd_list in
    let hosts : c.in_ok-hosts_of.field-0.items ≡ r.hosts = c.in_ok-hosts_of.ensures.only r.hosts h.hosts host_list in
    let runas : c.in_ok-word_member-3.field-0 ≡ r.runas = c.in_ok-word_member-3.ensures.only r.runas h.runas (ap (get (codes "runas")) e) in
    λ i. record { at = at i; by = by i; ceiling = ceiling i; cmnds = cmnds i; from = from i; hosts = hosts i; no = number i; runas = runas i; until = until i }
