-- The words of a sudoers text: the names of users, hosts and aliases, paths, and arguments
-- (sudoers(5), "SUDOERS FILE FORMAT"). All are ASCII, and two are equal where their bytes are.
use Rattle.std.specs.Prelude.{ℕ, ◌-◌, Bool, false, not, ◌&&◌, ◌||◌, ◌==◌}
use Rattle.std.specs.Prelude.{nat_le, List, [], ◌∷◌, length, take, drop, codes}
use Rattle.std.specs.List.{ends_with, list_all, list_any, slice_split}
use Rattle.std.specs.Str.{bytes_eq}

abbrev pub is_lower : ℕ → Bool
is_lower b = nat_le 97 b && nat_le b 122

abbrev pub is_upper : ℕ → Bool
is_upper b = nat_le 65 b && nat_le b 90

abbrev pub is_digit : ℕ → Bool
is_digit b = nat_le 48 b && nat_le b 57

abbrev pub is_letter_or_digit : ℕ → Bool
is_letter_or_digit b = is_lower b || is_upper b || is_digit b

-- ---- keywords: `sudoedit` begins an Edit_Spec, and the others a Digest_Spec (sudoers(5),
-- "Aliases"). sudo also reads a keyword so where a name is expected, and then refuses the whole
-- file: no user, target or host has one as its name.

abbrev pub keywords : List (List ℕ)
keywords = codes "sudoedit" ∷ codes "sha224" ∷ codes "sha256" ∷ codes "sha384" ∷ codes "sha512" ∷ []

unfoldable pub is_keyword : List ℕ → Bool
is_keyword w = list_any (λ k. bytes_eq k w) keywords

-- ---- users and targets: `[a-z_][a-z0-9._-]*`, up to 32 bytes, and not a keyword

abbrev pub is_name_byte : ℕ → Bool
is_name_byte b = is_lower b || is_digit b || (b == 46) || (b == 95) || (b == 45)

abbrev pub is_name_shape : List ℕ → Bool
is_name_shape [] = false
is_name_shape (b ∷ bs) =
    (is_lower b || (b == 95)) && list_all is_name_byte bs && nat_le (length (b ∷ bs)) 32

abbrev pub is_name : List ℕ → Bool
is_name w = is_name_shape w && not (is_keyword w)

-- ---- labels of the desk (duties, ceilings, relays), which no sudoers text has: `[a-z][a-z0-9-]*`,
-- up to 32 bytes

abbrev pub is_host_byte : ℕ → Bool
is_host_byte b = is_lower b || is_digit b || (b == 45)

abbrev pub is_label : List ℕ → Bool
is_label [] = false
is_label (b ∷ bs) = is_lower b && list_all is_host_byte bs && nat_le (length (b ∷ bs)) 32

-- ---- hosts: the same form, and not a keyword

abbrev pub is_host_name : List ℕ → Bool
is_host_name w = is_label w && not (is_keyword w)

-- ---- aliases: `[A-Z][A-Z0-9_]*`, up to 32 bytes, and not a word that sudoers keeps for itself

abbrev pub is_alias_byte : ℕ → Bool
is_alias_byte b = is_upper b || is_digit b || (b == 95)

-- `ALL`, the options and the tags
abbrev pub reserved_words : List (List ℕ)
reserved_words =
    codes "ALL" ∷ codes "NOTBEFORE" ∷ codes "NOTAFTER" ∷ codes "TIMEOUT" ∷ codes "CWD"
    ∷ codes "CHROOT" ∷ codes "ROLE" ∷ codes "TYPE" ∷ codes "PRIVS" ∷ codes "LIMITPRIVS"
    ∷ codes "APPARMOR_PROFILE" ∷ codes "PASSWD" ∷ codes "NOPASSWD" ∷ codes "EXEC" ∷ codes "NOEXEC"
    ∷ codes "SETENV" ∷ codes "NOSETENV" ∷ codes "LOG_INPUT" ∷ codes "NOLOG_INPUT"
    ∷ codes "LOG_OUTPUT" ∷ codes "NOLOG_OUTPUT" ∷ codes "MAIL" ∷ codes "NOMAIL"
    ∷ codes "FOLLOW" ∷ codes "NOFOLLOW" ∷ codes "INTERCEPT" ∷ codes "NOINTERCEPT" ∷ []

unfoldable pub is_reserved : List ℕ → Bool
is_reserved w = list_any (λ r. bytes_eq r w) reserved_words

abbrev pub is_alias_shape : List ℕ → Bool
is_alias_shape [] = false
is_alias_shape (b ∷ bs) = is_upper b && list_all is_alias_byte bs && nat_le (length (b ∷ bs)) 32

abbrev pub is_alias_name : List ℕ → Bool
is_alias_name w = is_alias_shape w && not (is_reserved w)

-- ---- paths: components with a slash before each, none of them empty, `.` or `..`

abbrev pub is_path_byte : ℕ → Bool
is_path_byte b = is_letter_or_digit b || (b == 46) || (b == 95) || (b == 43) || (b == 45)

abbrev pub is_dots : List ℕ → Bool
is_dots part = bytes_eq part (codes ".") || bytes_eq part (codes "..")

abbrev pub is_component : List ℕ → Bool
is_component part = nat_le 1 (length part) && list_all is_path_byte part && not (is_dots part)

abbrev pub are_components : List ℕ → Bool
are_components w = list_all is_component (slice_split (λ b. b == 47) w)

abbrev pub is_absolute : List ℕ → Bool
is_absolute [] = false
is_absolute (b ∷ bs) = (b == 47) && are_components bs

-- a file, of up to 4,096 bytes
abbrev pub is_file_path : List ℕ → Bool
is_file_path w = is_absolute w && nat_le (length w) 4096

-- a directory: a path and one more slash, which counts
abbrev pub is_dir_path : List ℕ → Bool
is_dir_path w =
    bytes_eq (drop (length w - 1) w) (codes "/")
    && is_absolute (take (length w - 1) w) && nat_le (length w) 4096

-- The path's last component is `sudoedit`. Whatever the path before it, sudo takes such a command
-- for its own command `sudoedit`, which edits files, and not for that file: "the path name will be
-- silently converted" (sudoers(5), "Aliases").
abbrev pub is_sudoedit : List ℕ → Bool
is_sudoedit path = ends_with (λ a b. a == b) path (codes "/sudoedit")

-- ---- arguments: 1 to 64 bytes

abbrev pub is_arg_byte : ℕ → Bool
is_arg_byte b =
    is_path_byte b || (b == 47) || (b == 64) || (b == 37) || (b == 44) || (b == 58) || (b == 61)

abbrev pub is_arg : List ℕ → Bool
is_arg w = list_all is_arg_byte w && nat_le 1 (length w) && nat_le (length w) 64
