-- The reader on lists: what one byte more makes of it.
use Rattle.std.specs.Prelude.{ℕ, Bool, true, false, ◌&&◌, ◌==◌, nat_lt, if◌then◌else◌, List, [], ◌∷◌, ◌++◌, length, Option, Some, None, codes}
use Rattle.std.specs.Str.{encode_utf8_all, bytes_eq}
use Rattle.std.specs.List.{starts_with}
use Rattle.mt_tree.specs.Tables.{is_void_tag}
use Rattle.mt_tree.specs.declared.html.Html.TheVariants as html
use Rattle.mt_syntax.specs.declared.program.Code.{Code}
use Rattle.mt_page_read.specs.declared.tree.Frame.{Frame}
use Rattle.mt_page_read.specs.declared.tree.Stage.{Stage}
use Rattle.mt_page_read.specs.declared.tree.Stage.TheVariants as stage
use Rattle.mt_page_read.specs.declared.tree.Growing.{Growing}
use Rattle.mt_page_read.specs.declared.machine.Mode.{Mode}
use Rattle.mt_page_read.specs.declared.machine.Mode.TheVariants as mode
use Rattle.mt_page_read.specs.declared.machine.Machine.{Machine}
use Rattle.mt_page_tokens.specs.Tokens.{Chars, Page, closing, doctype}
use Rattle.mt_page_tokens.specs.Limits.{is_element}
use Rattle.mt_page_tokens.specs.declared.tokens.Opening.{Opening}
use Rattle.mt_page_tokens.specs.Reading.{opening_at, words_at, script_at}

abbrev pub growing : Stage → List Frame → Growing
growing s fs = record { stage = s; frames = fs }

abbrev pub refused : Growing
refused = growing stage.Refused []

-- the root is there
abbrev pub rooted : Page → Stage → Stage
rooted page stage.Root = if is_element page then stage.Done page else stage.Refused
rooted page _ = stage.Refused

abbrev pub with_child : Page → Frame → Frame
with_child page f = record { tag = f.tag; attributes = f.attributes; children = f.children ++ page ∷ [] }

-- a node more: the root, or the last child of the innermost element
abbrev pub grown_by : Page → Stage → List Frame → Growing
grown_by page s [] = growing (rooted page s) []
grown_by page s (f ∷ fs) = growing s (with_child page f ∷ fs)

unfoldable pub grown : Page → Growing → Growing
grown page g = grown_by page g.stage g.frames

abbrev pub element_of : Frame → Page
element_of f = html.Element (record { tag = f.tag; attributes = f.attributes; children = f.children })

abbrev pub is_root : Stage → Bool
is_root stage.Root = true
is_root _ = false

abbrev pub frame_of : Opening → Frame
frame_of o = record { tag = o.tag; attributes = o.attributes; children = [] }

unfoldable pub opened : Option Opening → Growing → Growing
opened None g = refused
opened (Some o) g =
    if is_root g.stage && nat_lt (length g.frames) 60
    then (if is_void_tag (encode_utf8_all o.tag) then grown (element_of (frame_of o)) g else growing g.stage (frame_of o ∷ g.frames))
    else refused

abbrev pub closed_by : List ℕ → Stage → List Frame → Growing
closed_by bytes s [] = refused
closed_by bytes s (f ∷ fs) = if bytes_eq (closing f.tag) bytes then grown (element_of f) (growing s fs) else refused

unfoldable pub closed : List ℕ → Growing → Growing
closed bytes g = closed_by bytes g.stage g.frames

abbrev pub tagged_by : List ℕ → Stage → Growing → Growing
tagged_by bytes stage.Doctype g = if bytes_eq doctype bytes then growing stage.Root g.frames else refused
tagged_by bytes _ g = if starts_with (λ x y. x == y) bytes (60 ∷ 47 ∷ []) then closed bytes g else opened (opening_at bytes) g

-- a tag more, of its bytes before the >
unfoldable pub tagged : List ℕ → Growing → Growing
tagged bytes g = tagged_by bytes g.stage g

abbrev pub child_by : Option Page → Growing → Growing
child_by None g = refused
child_by (Some page) g = grown page g

abbrev pub words_of : Option Chars → Option Page
words_of None = None
words_of (Some text) = Some (html.Text text)

abbrev pub script_of : Option Code → Option Page
script_of None = None
script_of (Some code) = Some (html.Script code)

unfoldable pub worded : List ℕ → Growing → Growing
worded [] g = g
worded (b ∷ bytes) g = child_by (words_of (words_at (b ∷ bytes))) g

unfoldable pub scripted : List ℕ → Growing → Growing
scripted bytes g = child_by (script_of (script_at bytes)) g

abbrev pub reader : Mode → List ℕ → Growing → Machine
reader m held g = record { mode = m; held = held; tree = g }

abbrev pub after : ℕ → Mode → List ℕ → Growing → Machine
after b mode.Words held g = if b == 60 then reader mode.Tag (b ∷ []) (worded held g) else reader mode.Words (held ++ b ∷ []) g
after b mode.Tag held g = if b == 62
    then (if bytes_eq (codes "<script") held then reader mode.Script (held ++ b ∷ []) g else reader mode.Words [] (tagged held g))
    else reader mode.Tag (held ++ b ∷ []) g
after b mode.Script held g = reader (if b == 60 then mode.Less else mode.Script) (held ++ b ∷ []) g
after b mode.Less held g = reader (if b == 47 then mode.Slash else (if b == 60 then mode.Less else mode.Script)) (held ++ b ∷ []) g
after b mode.Slash held g = if b == 62 then reader mode.Words [] (scripted held g) else reader mode.Slash (held ++ b ∷ []) g

unfoldable pub step : ℕ → Machine → Machine
step b r = after b r.mode r.held r.tree

abbrev pub run : List ℕ → Machine → Machine
run [] r = r
run (b ∷ bs) r = run bs (step b r)

abbrev pub start : Bool → Machine
start true = reader mode.Words [] (growing stage.Doctype [])
start false = reader mode.Words [] (growing stage.Root [])

abbrev pub finished_by : Stage → List ℕ → Option Page
finished_by (stage.Done page) [] = Some page
finished_by _ _ = None

abbrev pub finished : Machine → Option Page
finished r = finished_by r.tree.stage r.held
