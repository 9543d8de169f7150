-- Which bytes a reader was fed.
use Rattle.std.specs.Prelude.{◌≡◌, ℕ, ◌+◌, Bool, List, ◌++◌, length, Option, None, Some}
use Rattle.mt_tree.specs.Limits.{body_limit}
use Rattle.mt_page_tokens.specs.Limits.{IsPage}
use Rattle.mt_page_tokens.specs.Tokens.{Page, text_of}
use Rattle.mt_page_read.specs.declared.machine.Machine.{Machine}
use Rattle.mt_page_read.specs.declared.reader.PageReader.{PageReader}
use Rattle.mt_page_read.specs.Machine.{run, start}

-- no page within the limits, or no fragment, has a text that begins with the bytes
abbrev pub BeginsNone : Bool → List ℕ → Type 0
BeginsNone whole fed = (page : Page) (more : List ℕ) → IsPage whole page → text_of whole page ≡ fed ++ more → ⊥

abbrev pub HasReadBy : Bool → List ℕ → ℕ → Option Machine → Type 0
HasReadBy whole fed left None = BeginsNone whole fed
HasReadBy whole fed left (Some machine) = (machine ≡ run fed (start whole)) × (length fed + left ≡ body_limit)

-- these bytes were fed to a reader of pages, or of fragments
unfoldable pub HasRead : Bool → List ℕ → PageReader → Type 0
HasRead whole fed reader = HasReadBy whole fed reader.left reader.machine
