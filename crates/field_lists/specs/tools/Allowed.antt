-- What is allowed of control data, as tests. No public clause cites this module.
use Rattle.std.specs.Prelude.{ℕ, Bool, ◌&&◌, not, List, codes}
use Rattle.std.specs.List.{list_all, list_any}
use Rattle.std.specs.Str.{bytes_eq}
use Rattle.byte_grammar.specs.Classes.{is_one_of, is_token, is_visible}
use Rattle.msg_head.specs.Starts.{is_code}
use Rattle.field_lists.specs.Controls.{Control, RequestControl, request, response, is_lower_scheme, is_path_text, is_text}

-- a token other than CONNECT
abbrev pub is_method : List ℕ → Bool
is_method text = is_token text && not (bytes_eq text (codes "CONNECT"))

-- visible bytes without a fragment
abbrev pub has_no_fragment : List ℕ → Bool
has_no_fragment text = list_all is_visible text && not (list_any (is_one_of (codes "#")) text)

-- the values of a request are allowed
abbrev pub is_allowed_request : RequestControl → Bool
is_allowed_request control =
    ((is_method control.method && is_lower_scheme control.scheme) && is_text control.authority)
    && is_path_text control.path

-- the values are allowed
abbrev pub is_allowed : Control → Bool
is_allowed (request control) = is_allowed_request control
is_allowed (response code) = is_code code
