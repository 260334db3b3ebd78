-- What a request and a verdict say, and which of them are valid. Names are seen as their bytes, and
-- moments as seconds.
use Rattle.std.specs.Prelude.{◌≡◌, ℕ, ◌≤◌, true, List, All, map, length}
use Rattle.sudo_words.specs.Moment.{IsMoment}
use Rattle.sudo_words.specs.Word.{is_name, is_host_name, is_label}
use Rattle.sudo_words.specs.Command.{IsLawful, cmnd_text}
use Rattle.sudo_words.specs.declared.cmnd.Cmnd.{Cmnd}
use Rattle.messages.specs.Order.{IsRising}
use Rattle.messages.specs.declared.kind.VerdictKind.{VerdictKind}

-- Someone asks, at a moment, for commands on hosts as a target, within a window of time and under a
-- ceiling.
pub record RequestFields : Type 0 where
  pub at : ℕ
  pub by : List ℕ
  pub ceiling : List ℕ
  pub cmnds : List Cmnd
  pub from : ℕ
  pub hosts : List (List ℕ)
  pub no : ℕ
  pub runas : List ℕ
  pub until : ℕ

-- Someone answers, at a moment, the request that the asker `of` made under the number `no`.
pub record VerdictFields : Type 0 where
  pub at : ℕ
  pub by : List ℕ
  pub kind : VerdictKind
  pub no : ℕ
  pub of : List ℕ

-- the lists of a request have 1 to 16 elements
abbrev pub IsShort : {X : Type 0} → List X → Type 0
IsShort xs = (1 ≤ length xs) × (length xs ≤ 16)

-- lawful commands, whose texts rise in byte order
abbrev pub AreCmnds : List Cmnd → Type 0
AreCmnds cs = IsShort cs × All IsLawful cs × IsRising (map cmnd_text cs)

-- names of hosts, which rise in byte order
abbrev pub AreHosts : List (List ℕ) → Type 0
AreHosts hs = IsShort hs × All (λ h. is_host_name h ≡ true) hs × IsRising hs

-- the numbers of requests
abbrev pub IsNumbered : ℕ → Type 0
IsNumbered n = n ≤ 999_999_999

-- What holds for every request. The window's first moment may lie after its last.
pub record IsRequest (r : RequestFields) : Type 0 where
  pub at : IsMoment r.at
  pub by : is_name r.by ≡ true
  pub ceiling : is_label r.ceiling ≡ true
  pub cmnds : AreCmnds r.cmnds
  pub from : IsMoment r.from
  pub hosts : AreHosts r.hosts
  pub no : IsNumbered r.no
  pub runas : is_name r.runas ≡ true
  pub until : IsMoment r.until

-- What holds for every verdict.
pub record IsVerdict (v : VerdictFields) : Type 0 where
  pub at : IsMoment v.at
  pub by : is_name v.by ≡ true
  pub no : IsNumbered v.no
  pub of : is_name v.of ≡ true
