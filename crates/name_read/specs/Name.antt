-- 02, L6: the Name of a key: "the Name structure of document 000, type uninterpreted text", of "1 to 32 bytes of text".
-- Assumes nothing. "One of wrong shape or with a value not allowed here fails with Invalid Field."
use Rattle.std.specs.Prelude.{ℕ, eqb}
use Rattle.std.specs.Prelude.{Option, None, Some}
use Rattle.octets.specs.Maybe.{◌>>=◌, ◌>>◌}
use Rattle.ttlv_types.specs.Types.{enumeration, text_string}
use Rattle.ttlv.specs.Items.{Items, ended}
use Rattle.fields.specs.Fields.{bytes_of, body_of, number_of, optional}
use Rattle.tags.specs.Tags.{name_tag, name_type, name_value}
use Rattle.names.specs.declared.Name.{Name}
use Rattle.names.specs.Names.{no_name, name_of, name_ok}

-- "type uninterpreted text"
abbrev pub uninterpreted_text : ℕ
uninterpreted_text = 1

-- "the Name structure of document 000": Name Value, then Name Type
unfoldable pub name_body : Items → Option Name
name_body t = do
  (v, r) ← bytes_of name_value text_string t
  name_ok v
  (kind, s) ← number_of name_type enumeration r
  eqb kind uninterpreted_text
  ended s
  Some (name_of v)

-- a Name structure in front
unfoldable pub name_first : Items → Option (Name × Items)
name_first t = do
  (body, rest) ← body_of name_tag t
  name ← name_body body
  Some (name, rest)

-- "the Name alone"
unfoldable pub only_name_in : Items → Option Name
only_name_in t = do
  (name, rest) ← name_first t
  ended rest
  Some name

-- a name that is not given is none
unfoldable pub or_no_name : Option Name → Name
or_no_name None = no_name
or_no_name (Some name) = name

-- "an optional Name": "Create takes it as last attribute"
unfoldable pub last_name_in : Items → Option Name
last_name_in t = do
  (name, rest) ← optional name_tag name_first t
  ended rest
  Some (or_no_name name)
