-- Which statement or expression a word begins.
use Rattle.std.specs.Prelude.{ℕ, if◌then◌else◌, List, true, false, codes}
use Rattle.std.specs.Str.{bytes_eq}
use Rattle.mt_tree.specs.declared.operators.VarKind.TheVariants as word
use Rattle.mt_script_words.specs.declared.keywords.Keyword.{Keyword}
use Rattle.mt_script_words.specs.declared.keywords.Keyword.TheVariants as keyword
use Rattle.mt_script_words.specs.declared.keywords.Leader.{Leader}
use Rattle.mt_script_words.specs.declared.keywords.Leader.TheVariants as leader

unfoldable pub keyword_of : List ℕ → Keyword
keyword_of w =
    if bytes_eq (codes "var") w then keyword.Declare word.Var else
    if bytes_eq (codes "let") w then keyword.Declare word.Let else
    if bytes_eq (codes "const") w then keyword.Declare word.Const else
    if bytes_eq (codes "function") w then keyword.Function else
    if bytes_eq (codes "if") w then keyword.If else
    if bytes_eq (codes "while") w then keyword.While else
    if bytes_eq (codes "for") w then keyword.For else
    if bytes_eq (codes "return") w then keyword.Return else
    if bytes_eq (codes "throw") w then keyword.Throw else
    if bytes_eq (codes "break") w then keyword.Break else
    if bytes_eq (codes "continue") w then keyword.Continue else
    if bytes_eq (codes "try") w then keyword.Try else
    keyword.Other

unfoldable pub leader_of : List ℕ → Leader
leader_of w =
    if bytes_eq (codes "true") w then leader.Truth true else
    if bytes_eq (codes "false") w then leader.Truth false else
    if bytes_eq (codes "null") w then leader.Null else
    if bytes_eq (codes "undefined") w then leader.Undefined else
    if bytes_eq (codes "function") w then leader.Function else
    if bytes_eq (codes "typeof") w then leader.Typeof else
    leader.Other
