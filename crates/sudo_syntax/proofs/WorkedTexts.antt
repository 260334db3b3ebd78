-- Literal texts and the policies that they spell.
use Rattle.std.proofs.Common.{◌≡◌, ℕ, true, false, List, [], ◌∷◌, ◌++◌, Some, None, refl, sym, ◌+◌, ◌*◌, inl, inr, lit<, lit≤}
use Rattle.std.specs.List.{list_all}
use Rattle.std.proofs.lemmas.List.{append-nil}
use Rattle.sudo_words.specs.Bytes.{equals, comma, colon, opening, closing}
use Rattle.sudo_words.specs.Word.{is_keyword, is_reserved}
use Rattle.sudo_words.specs.Moment as moments
use Rattle.sudo_words.specs.Moment.{IsClockText, date_of, date_from_year, date_from_month}
use Rattle.sudo_words.proofs.MomentLemmas.{date_text_is, spells_from}
use Rattle.sudo_words.proofs.WorkedMoments.{ahead}
use Rattle.std.specs.Prelude.{codes}
use Rattle.sudo_words.specs.declared.cmnd.Cmnd.TheVariants as commands
use Rattle.sudo_words.specs.declared.cmnd.ArgRule.TheVariants as rules
use Rattle.sudo_policy.specs.declared.entry.Signed.{Signed}
use Rattle.sudo_policy.specs.declared.entry.Item.{Item}
use Rattle.sudo_policy.specs.declared.entry.Item.TheVariants as items
use Rattle.sudo_policy.specs.declared.entry.CmndItem.{CmndItem}
use Rattle.sudo_policy.specs.declared.entry.CmndItem.TheVariants as cmnds
use Rattle.sudo_policy.specs.declared.entry.Entry.{Entry}
use Rattle.sudo_policy.specs.declared.tree.Line.{Line}
use Rattle.sudo_policy.specs.declared.tree.Line.TheVariants as lines
use Rattle.sudo_policy.specs.declared.tree.Part.{Part}
use Rattle.sudo_policy.specs.declared.tree.CmndSpec.{CmndSpec}
use Rattle.sudo_policy.specs.Lines.{is_no_hash, ends_in_backslash, Joined}
use Rattle.sudo_policy.specs.Lex.{Tok, word, mark, Lexes}
use Rattle.sudo_policy.specs.Tags.{none_given}
use Rattle.sudo_policy.specs.Grammar.{SpellsTree}
use Rattle.sudo_policy.specs.Inheritance.{entries_of}
use Rattle.sudo_policy.specs.Spelling.{Spells, SpellsLine, SpellsLines}
use Rattle.sudo_syntax.specs.Worked.{SpellsAs, may_run}
use Rattle.sudo_syntax.proofs.Deriving.{each_of, lexed, lexed_more, plain_body, item, cmnd, only, only_spelled, cmnd_is, spelled}

abbrev pub yes : {X : Type 0} → X → Signed X
yes x = record { negated = false; item = x }

abbrev no : {X : Type 0} → X → Signed X
no x = record { negated = true; item = x }

abbrev ls : CmndItem
ls = cmnds.Cmnd (commands.Path (codes "/bin/ls") rules.Any)

abbrev su : CmndItem
su = cmnds.Cmnd (commands.Path (codes "/bin/su") rules.Any)

abbrev pub all : CmndItem
all = cmnds.Cmnd commands.All

abbrev user : List ℕ → Signed (Item (List ℕ))
user name = yes (items.Name name)

abbrev pub part : List ℕ → CmndSpec → Part
part host spec = record { hosts = user host ∷ []; specs = spec ∷ [] }

abbrev pub user_spec : Signed (Item (List ℕ)) → List Part → Line
user_spec who parts = lines.UserSpec (who ∷ []) parts

-- a line without a comment, and what follows it
pub plain : (line : List ℕ) (rest : List (List ℕ)) (more : List (List ℕ)) → list_all is_no_hash line ≡ true → ends_in_backslash line ≡ false
    → Joined rest more → Joined (line ∷ rest) (line ∷ more)
plain line rest more none last joined = inl (line, more, plain_body line none last, refl, joined)

-- a line with its tree
pub spells_line : (line : List ℕ) (t : Tok) (ts : List Tok) (tree : Line) → Lexes line (t ∷ ts) → SpellsTree (t ∷ ts) tree → SpellsLine line (entries_of tree)
spells_line line t ts tree lexes spells = (t ∷ ts, lexes, (tree, spells, refl))

pub one_line : (line : List ℕ) (es : List Entry) → SpellsLine line es → SpellsLines (line ∷ []) es
one_line line es spells = (es, [], spells, sym (append-nil es), refl)

-- ---- `!!ann db1 = !!!/bin/su`

abbrev signs_text : List ℕ
signs_text = codes "!!ann db1 = !!!/bin/su"

abbrev signs_toks : List Tok
signs_toks = word true 0 (codes "db1") ∷ mark true equals ∷ word true 3 (codes "/bin/su") ∷ []

abbrev signs_line : Line
signs_line = user_spec (user (codes "ann")) (part (codes "db1") (only (no su)) ∷ [])

signs_tree : SpellsTree (word false 2 (codes "ann") ∷ signs_toks) signs_line
unfolding is_keyword
signs_tree = (
  _,
  (_, item refl, refl),
  refl,
  (_, record { spaced = true; next = _; hosts = (_, item refl, refl); specs = (_, only_spelled (cmnd (cmnd_is su refl)), refl) }, refl),
)

pub signs_spell : SpellsAs signs_text (codes "ann db1 = (root) !/bin/su\n")
unfolding is_keyword
signs_spell = (
  entries_of signs_line,
  spelled signs_text (signs_text ∷ []) (entries_of signs_line) refl (plain signs_text [] [] refl refl refl)
      (one_line signs_text (entries_of signs_line)
      (spells_line signs_text (word false 2 (codes "ann")) signs_toks signs_line (lexed (word false 2 (codes "ann") ∷ signs_toks) [] refl) signs_tree)) refl,
  refl,
)

-- ---- `ann db1 = ALL # see #12`

abbrev note_body : List ℕ
note_body = codes "ann db1 = ALL "

abbrev pub all_toks : List Tok
all_toks = word true 0 (codes "db1") ∷ mark true equals ∷ word true 0 (codes "ALL") ∷ []

abbrev all_line : Line
all_line = user_spec (user (codes "ann")) (part (codes "db1") (only (yes all)) ∷ [])

all_tree : SpellsTree (word false 0 (codes "ann") ∷ all_toks) all_line
unfolding is_keyword
all_tree = (
  _,
  (_, item refl, refl),
  refl,
  (_, record { spaced = true; next = _; hosts = (_, item refl, refl); specs = (_, only_spelled (cmnd (cmnd_is all refl)), refl) }, refl),
)

pub note_spell : SpellsAs (codes "ann db1 = ALL # see #12") (codes "ann db1 = (root) ALL\n")
unfolding is_keyword
note_spell = (
  entries_of all_line,
  spelled (codes "ann db1 = ALL # see #12") (note_body ∷ []) (entries_of all_line) refl
      (inl (
        note_body,
        [],
        inr (codes " see #12", record { whole = refl; each = each_of is_no_hash note_body refl; before = refl; allowed = refl }),
        refl,
        refl,
      )) (one_line note_body (entries_of all_line)
      (spells_line note_body (word false 0 (codes "ann")) all_toks all_line (lexed (word false 0 (codes "ann") ∷ all_toks) (codes " ") refl) all_tree)) refl,
  refl,
)

-- ---- `ann db1 = \`, and on the next line `/bin/ls`

abbrev continued : List ℕ
continued = codes "ann db1 =  /bin/ls"

abbrev ls_toks : List Tok
ls_toks = word true 0 (codes "db1") ∷ mark true equals ∷ word true 0 (codes "/bin/ls") ∷ []

abbrev ls_line : Line
ls_line = user_spec (user (codes "ann")) (part (codes "db1") (only (yes ls)) ∷ [])

ls_tree : SpellsTree (word false 0 (codes "ann") ∷ ls_toks) ls_line
unfolding is_keyword
ls_tree = (
  _,
  (_, item refl, refl),
  refl,
  (_, record { spaced = true; next = _; hosts = (_, item refl, refl); specs = (_, only_spelled (cmnd (cmnd_is ls refl)), refl) }, refl),
)

continued_lexes : Lexes continued (word false 0 (codes "ann") ∷ ls_toks)
continued_lexes =
    lexed_more (word false 0 (codes "ann") ∷ word true 0 (codes "db1") ∷ mark true equals ∷ []) (codes "  /bin/ls") (word true 0 (codes "/bin/ls") ∷ []) refl
    (codes "  ", [], (refl, (refl, tt)), refl, (lit< tt, refl, refl), refl, tt)

pub continued_spell : SpellsAs (codes "ann db1 = \\\n/bin/ls") (codes "ann db1 = (root) /bin/ls\n")
unfolding is_keyword
continued_spell = (
  entries_of ls_line,
  spelled (codes "ann db1 = \\\n/bin/ls") (continued ∷ []) (entries_of ls_line) refl
      (inr (
        codes "ann db1 = ",
        codes "/bin/ls",
        [],
        record { whole = refl; each = each_of is_no_hash (codes "ann db1 = ") refl; ends = refl },
        refl,
        plain (codes "/bin/ls") [] [] refl refl refl,
      )) (one_line continued (entries_of ls_line) (spells_line continued (word false 0 (codes "ann")) ls_toks ls_line continued_lexes ls_tree)) refl,
  refl,
)

-- ---- aliases and parts joined by `:`

abbrev users_text : List ℕ
users_text = codes "User_Alias A = ann, bob : B = A, !bob"

abbrev users_toks : List Tok
users_toks =
    word true 0 (codes "A") ∷ mark true equals ∷ word true 0 (codes "ann") ∷ mark false comma ∷ word true 0 (codes "bob") ∷ mark true colon
    ∷ word true 0 (codes "B") ∷ mark true equals ∷ word true 0 (codes "A") ∷ mark false comma ∷ word true 1 (codes "bob") ∷ []

abbrev users_line : Line
users_line =
    lines.Users (record { name = codes "A"; list = user (codes "ann") ∷ user (codes "bob") ∷ [] }
    ∷ record { name = codes "B"; list = yes (items.Alias (codes "A")) ∷ no (items.Name (codes "bob")) ∷ [] } ∷ [])

users_tree : SpellsTree (word false 0 (codes "User_Alias") ∷ users_toks) users_line
unfolding is_reserved is_keyword
users_tree = (
  false,
  _,
  refl,
  refl,
  (
    _,
    record { name_spaced = true; spaced = true; next = _; toks = refl; name = refl; list = (_, item refl, (false, _, _, refl, item refl, refl)) },
    (
      true,
      _,
      _,
      refl,
      record { name_spaced = true; spaced = true; next = _; toks = refl; name = refl; list = (_, item refl, (false, _, _, refl, item refl, refl)) },
      refl,
    ),
  ),
)

abbrev parts_text : List ℕ
parts_text = codes "B db1 = /bin/ls : db2 = (ALL) ALL"

abbrev parts_toks : List Tok
parts_toks =
    word true 0 (codes "db1") ∷ mark true equals ∷ word true 0 (codes "/bin/ls") ∷ mark true colon ∷ word true 0 (codes "db2") ∷ mark true equals
    ∷ mark true opening ∷ word false 0 (codes "ALL") ∷ mark false closing ∷ word true 0 (codes "ALL") ∷ []

abbrev as_anyone : CmndSpec
as_anyone = record { runas = Some (yes items.All ∷ []); not_before = None; not_after = None; tags = none_given; cmnd = yes all }

abbrev parts_line : Line
parts_line = user_spec (yes (items.Alias (codes "B"))) (part (codes "db1") (only (yes ls)) ∷ part (codes "db2") as_anyone ∷ [])

parts_tree : SpellsTree (word false 0 (codes "B") ∷ parts_toks) parts_line
unfolding is_reserved is_keyword
parts_tree = (
  _,
  (_, item refl, refl),
  refl,
  (
    _,
    record { spaced = true; next = _; hosts = (_, item refl, refl); specs = (_, only_spelled (cmnd (cmnd_is ls refl)), refl) },
    (
      true,
      _,
      _,
      refl,
      record {
        spaced = true;
        next = _;
        hosts = (_, item refl, refl);
        specs = (
          _,
          record {
            after_runas = _;
            dates = [];
            after_dates = _;
            tags = [];
            after_tags = _;
            runas = (true, false, _, _, refl, (_, item tt, refl), refl);
            dated = refl;
            bounds = (refl, refl);
            tagged = refl;
            given = refl;
            cmnd = cmnd (cmnd_is all refl);
          },
          refl,
        );
      },
      refl,
    ),
  ),
)

abbrev aliases_text : List ℕ
aliases_text = codes "User_Alias A = ann, bob : B = A, !bob\nB db1 = /bin/ls : db2 = (ALL) ALL"

abbrev aliases_entries : List Entry
aliases_entries = entries_of users_line ++ entries_of parts_line

pub aliases_spell : SpellsAs aliases_text (codes "User_Alias A = ann, bob\nUser_Alias B = A, !bob\nB db1 = (root) /bin/ls\nB db2 = (ALL) ALL\n")
unfolding is_reserved is_keyword
aliases_spell = (
  aliases_entries,
  spelled aliases_text (users_text ∷ parts_text ∷ []) aliases_entries refl
      (plain users_text (parts_text ∷ []) (parts_text ∷ []) refl refl (plain parts_text [] [] refl refl refl)) (
        entries_of users_line,
        entries_of parts_line,
        spells_line users_text (word false 0 (codes "User_Alias")) users_toks users_line
            (lexed (word false 0 (codes "User_Alias") ∷ users_toks) [] refl) users_tree,
        refl,
        one_line parts_text (entries_of parts_line)
            (spells_line parts_text (word false 0 (codes "B")) parts_toks parts_line (lexed (word false 0 (codes "B") ∷ parts_toks) [] refl) parts_tree),
      ) refl,
  refl,
)

-- ---- one name in two kinds

abbrev host_toks : List Tok
host_toks = word true 0 (codes "B") ∷ mark true equals ∷ word true 0 (codes "db1") ∷ []

abbrev host_line : Line
host_line = lines.Hosts (record { name = codes "B"; list = user (codes "db1") ∷ [] } ∷ [])

host_tree : SpellsTree (word false 0 (codes "Host_Alias") ∷ host_toks) host_line
unfolding is_reserved is_keyword
host_tree = (false, _, refl, refl, (_, record { name_spaced = true; spaced = true; next = _; toks = refl; name = refl; list = (_, item refl, refl) }, refl))

abbrev pub user_toks : List Tok
user_toks = word true 0 (codes "B") ∷ mark true equals ∷ word true 0 (codes "ann") ∷ []

abbrev pub user_line : Line
user_line = lines.Users (record { name = codes "B"; list = user (codes "ann") ∷ [] } ∷ [])

pub user_tree : SpellsTree (word false 0 (codes "User_Alias") ∷ user_toks) user_line
unfolding is_reserved is_keyword
user_tree = (false, _, refl, refl, (_, record { name_spaced = true; spaced = true; next = _; toks = refl; name = refl; list = (_, item refl, refl) }, refl))

abbrev both_toks : List Tok
both_toks = word true 0 (codes "B") ∷ mark true equals ∷ word true 0 (codes "ALL") ∷ []

abbrev both_line : Line
both_line = user_spec (yes (items.Alias (codes "B"))) (record { hosts = yes (items.Alias (codes "B")) ∷ []; specs = only (yes all) ∷ [] } ∷ [])

both_tree : SpellsTree (word false 0 (codes "B") ∷ both_toks) both_line
unfolding is_reserved is_keyword
both_tree = (
  _,
  (_, item refl, refl),
  refl,
  (_, record { spaced = true; next = _; hosts = (_, item refl, refl); specs = (_, only_spelled (cmnd (cmnd_is all refl)), refl) }, refl),
)

abbrev kinds_text : List ℕ
kinds_text = codes "Host_Alias B = db1\nUser_Alias B = ann\nB B = ALL"

abbrev kinds_entries : List Entry
kinds_entries = entries_of host_line ++ entries_of user_line ++ entries_of both_line

pub kinds_spell : SpellsAs kinds_text (codes "Host_Alias B = db1\nUser_Alias B = ann\nB B = (root) ALL\n")
unfolding is_reserved is_keyword
kinds_spell =
    let a = codes "Host_Alias B = db1" in
    let b = codes "User_Alias B = ann" in
    let c = codes "B B = ALL" in (
      kinds_entries,
      spelled kinds_text (a ∷ b ∷ c ∷ []) kinds_entries refl
          (plain a (b ∷ c ∷ []) (b ∷ c ∷ []) refl refl (plain b (c ∷ []) (c ∷ []) refl refl (plain c [] [] refl refl refl))) (
            entries_of host_line,
            entries_of user_line ++ entries_of both_line,
            spells_line a (word false 0 (codes "Host_Alias")) host_toks host_line (lexed (word false 0 (codes "Host_Alias") ∷ host_toks) [] refl) host_tree,
            refl,
            (
              entries_of user_line,
              entries_of both_line,
              spells_line b (word false 0 (codes "User_Alias")) user_toks user_line (lexed (word false 0 (codes "User_Alias") ∷ user_toks) [] refl) user_tree,
              refl,
              one_line c (entries_of both_line)
                  (spells_line c (word false 0 (codes "B")) both_toks both_line (lexed (word false 0 (codes "B") ∷ both_toks) [] refl) both_tree),
            ),
          ) refl,
      refl,
    )

-- ---- an argument with `\:`, and a directory

abbrev echo : CmndItem
echo = cmnds.Cmnd (commands.Path (codes "/bin/echo") (rules.Exactly (codes "a:b" ∷ [])))

abbrev echo_text : List ℕ
echo_text = codes "ann db1 = /bin/echo a\\:b"

abbrev echo_toks : List Tok
echo_toks = word true 0 (codes "db1") ∷ mark true equals ∷ word true 0 (codes "/bin/echo") ∷ word true 0 (codes "a\\:b") ∷ []

abbrev echo_line : Line
echo_line = user_spec (user (codes "ann")) (part (codes "db1") (only (yes echo)) ∷ [])

echo_tree : SpellsTree (word false 0 (codes "ann") ∷ echo_toks) echo_line
unfolding is_keyword
echo_tree = (
  _,
  (_, item refl, refl),
  refl,
  (_, record { spaced = true; next = _; hosts = (_, item refl, refl); specs = (_, only_spelled (cmnd (cmnd_is echo refl)), refl) }, refl),
)

pub echo_spell : Spells echo_text (may_run (commands.Path (codes "/bin/echo") (rules.Exactly (codes "a:b" ∷ []))))
unfolding is_keyword
echo_spell =
    spelled echo_text (echo_text ∷ []) (entries_of echo_line) refl (plain echo_text [] [] refl refl refl) (one_line echo_text (entries_of echo_line)
    (spells_line echo_text (word false 0 (codes "ann")) echo_toks echo_line (lexed (word false 0 (codes "ann") ∷ echo_toks) [] refl) echo_tree)) refl

abbrev bin : CmndItem
bin = cmnds.Cmnd (commands.Dir (codes "/usr/bin/"))

abbrev bin_text : List ℕ
bin_text = codes "ann db1 = /usr/bin/"

abbrev bin_toks : List Tok
bin_toks = word true 0 (codes "db1") ∷ mark true equals ∷ word true 0 (codes "/usr/bin/") ∷ []

abbrev bin_line : Line
bin_line = user_spec (user (codes "ann")) (part (codes "db1") (only (yes bin)) ∷ [])

bin_tree : SpellsTree (word false 0 (codes "ann") ∷ bin_toks) bin_line
unfolding is_keyword
bin_tree = (
  _,
  (_, item refl, refl),
  refl,
  (_, record { spaced = true; next = _; hosts = (_, item refl, refl); specs = (_, only_spelled (cmnd (cmnd_is bin refl)), refl) }, refl),
)

pub bin_spell : Spells bin_text (may_run (commands.Dir (codes "/usr/bin/")))
unfolding is_keyword
bin_spell =
    spelled bin_text (bin_text ∷ []) (entries_of bin_line) refl (plain bin_text [] [] refl refl refl) (one_line bin_text (entries_of bin_line)
    (spells_line bin_text (word false 0 (codes "ann")) bin_toks bin_line (lexed (word false 0 (codes "ann") ∷ bin_toks) [] refl) bin_tree)) refl

-- ---- dates, one of which the second command inherits

five_january : (clock : List ℕ) (seconds : ℕ) → IsClockText clock seconds
    → moments.SpellsMoment (codes "20260105" ++ clock ++ codes "Z") (86_400 * 20_458 + seconds)
unfolding date_of date_from_year date_from_month
five_january clock seconds is =
    spells_from (codes "20260105" ++ clock ++ codes "Z") (codes "20260105") clock 20_458 seconds refl (lit≤ tt) (date_text_is 20_458 (lit≤ tt)) is

eleven : moments.SpellsMoment (codes "2026010511Z") 1_767_610_800
eleven = five_january (codes "11") 39_600 (lit< tt, inr (inr (refl, refl, refl)))

nine : moments.SpellsMoment (codes "2026010509Z") 1_767_603_600
nine = five_january (codes "09") 32_400 (lit< tt, inr (inr (refl, refl, refl)))

abbrev cat : CmndItem
cat = cmnds.Cmnd (commands.Path (codes "/bin/cat") rules.Any)

abbrev dates_text : List ℕ
dates_text = codes "ann db1 = NOTAFTER=2026010511Z /bin/ls, NOTBEFORE=2026010509Z /bin/cat : db2 = /bin/ls"

abbrev dates_toks : List Tok
dates_toks =
    word true 0 (codes "db1") ∷ mark true equals ∷ word true 0 (codes "NOTAFTER") ∷ mark false equals ∷ word false 0 (codes "2026010511Z")
    ∷ word true 0 (codes "/bin/ls") ∷ mark false comma ∷ word true 0 (codes "NOTBEFORE") ∷ mark false equals ∷ word false 0 (codes "2026010509Z")
    ∷ word true 0 (codes "/bin/cat") ∷ mark true colon ∷ word true 0 (codes "db2") ∷ mark true equals ∷ word true 0 (codes "/bin/ls") ∷ []

abbrev until : CmndSpec
until = record { runas = None; not_before = None; not_after = Some 1_767_610_800; tags = none_given; cmnd = yes ls }

abbrev since : CmndSpec
since = record { runas = None; not_before = Some 1_767_603_600; not_after = None; tags = none_given; cmnd = yes cat }

abbrev dates_line : Line
dates_line = user_spec (user (codes "ann")) (record { hosts = user (codes "db1") ∷ []; specs = until ∷ since ∷ [] } ∷ part (codes "db2") (only (yes ls)) ∷ [])

dates_tree : SpellsTree (word false 0 (codes "ann") ∷ dates_toks) dates_line
unfolding is_keyword
dates_tree = (
  _,
  (_, item refl, refl),
  refl,
  (
    _,
    record {
      spaced = true;
      next = _;
      hosts = (_, item refl, refl);
      specs = (
        _,
        record {
          after_runas = _;
          dates = record { word = codes "NOTAFTER"; moment = 1_767_610_800 } ∷ [];
          after_dates = _;
          tags = [];
          after_tags = _;
          runas = refl;
          dated = (true, codes "2026010511Z", _, eleven, refl, refl, refl);
          bounds = (None, Some 1_767_610_800, inr (refl, refl, refl, refl), (refl, refl));
          tagged = refl;
          given = refl;
          cmnd = cmnd (cmnd_is ls refl);
        },
        (
          false,
          _,
          _,
          refl,
          record {
            after_runas = _;
            dates = record { word = codes "NOTBEFORE"; moment = 1_767_603_600 } ∷ [];
            after_dates = _;
            tags = [];
            after_tags = _;
            runas = refl;
            dated = (true, codes "2026010509Z", _, nine, refl, refl, refl);
            bounds = (Some 1_767_603_600, None, inl (refl, refl, refl, refl), (refl, refl));
            tagged = refl;
            given = refl;
            cmnd = cmnd (cmnd_is cat refl);
          },
          refl,
        ),
      );
    },
    (true, _, _, refl, record { spaced = true; next = _; hosts = (_, item refl, refl); specs = (_, only_spelled (cmnd (cmnd_is ls refl)), refl) }, refl),
  ),
)

pub dates_spell : SpellsAs dates_text
    (codes "ann db1 = (root) NOTAFTER=20260105110000Z /bin/ls\nann db1 = (root) NOTBEFORE=20260105090000Z NOTAFTER=20260105110000Z /bin/cat\nann db2 = (root) /bin/ls\n")
unfolding date_of date_from_year date_from_month is_keyword
dates_spell = (
  entries_of dates_line,
  spelled dates_text (dates_text ∷ []) (entries_of dates_line) refl (plain dates_text [] [] refl refl refl)
      (one_line dates_text (entries_of dates_line)
      (spells_line dates_text (word false 0 (codes "ann")) dates_toks dates_line (lexed (word false 0 (codes "ann") ∷ dates_toks) [] refl) dates_tree)) refl,
  refl,
)

-- ---- a date by a clock an hour ahead of UTC

abbrev ahead_text : List ℕ
ahead_text = codes "ann db1 = NOTBEFORE=20260105100000+0100 /bin/ls"

abbrev ahead_toks : List Tok
ahead_toks =
    word true 0 (codes "db1") ∷ mark true equals ∷ word true 0 (codes "NOTBEFORE") ∷ mark false equals ∷ word false 0 (codes "20260105100000+0100")
    ∷ word true 0 (codes "/bin/ls") ∷ []

abbrev ahead_line : Line
ahead_line = user_spec (user (codes "ann"))
    (part (codes "db1") (record { runas = None; not_before = Some 1_767_603_600; not_after = None; tags = none_given; cmnd = yes ls }) ∷ [])

ahead_tree : SpellsTree (word false 0 (codes "ann") ∷ ahead_toks) ahead_line
unfolding is_keyword
ahead_tree = (
  _,
  (_, item refl, refl),
  refl,
  (
    _,
    record {
      spaced = true;
      next = _;
      hosts = (_, item refl, refl);
      specs = (
        _,
        record {
          after_runas = _;
          dates = record { word = codes "NOTBEFORE"; moment = 1_767_603_600 } ∷ [];
          after_dates = _;
          tags = [];
          after_tags = _;
          runas = refl;
          dated = (true, codes "20260105100000+0100", _, ahead, refl, refl, refl);
          bounds = (Some 1_767_603_600, None, inl (refl, refl, refl, refl), (refl, refl));
          tagged = refl;
          given = refl;
          cmnd = cmnd (cmnd_is ls refl);
        },
        refl,
      );
    },
    refl,
  ),
)

pub ahead_spell : SpellsAs ahead_text (codes "ann db1 = (root) NOTBEFORE=20260105090000Z /bin/ls\n")
unfolding date_of date_from_year date_from_month is_keyword
ahead_spell = (
  entries_of ahead_line,
  spelled ahead_text (ahead_text ∷ []) (entries_of ahead_line) refl (plain ahead_text [] [] refl refl refl)
      (one_line ahead_text (entries_of ahead_line)
      (spells_line ahead_text (word false 0 (codes "ann")) ahead_toks ahead_line (lexed (word false 0 (codes "ann") ∷ ahead_toks) [] refl) ahead_tree)) refl,
  refl,
)
