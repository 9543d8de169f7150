-- No two codes have one text, whatever limits they pass.
use Rattle.std.proofs.Common.{◌≡◌, ℕ, ◌+◌, max, true, List, [], ◌∷◌, ◌++◌, length, map, Option, Some, None, refl, sym, ap, subst, ◌∙◌, arith}
use Rattle.std.specs.List.{flat_map}
use Rattle.std.specs.Str.{all_scalars, chars}
use lib.Utf8.{encodes}
use Rattle.std.proofs.lemmas.Bool.{and_parts}
use Rattle.std.proofs.lemmas.List.{append-nil}
use Rattle.std.proofs.lemmas.Str.{chars-encodes}
use Rattle.mt_syntax.specs.CodeText.{code_text}
use Rattle.mt_syntax.specs.Codes.{IsCode, is_nowhere, testing_nowhere}
use Rattle.mt_syntax.specs.Depth.{depth_of}
use Rattle.mt_syntax.specs.Fold.{ExprLayer, StmtLayer}
use Rattle.mt_syntax.specs.Sort as sort
use Rattle.mt_syntax.specs.declared.tree.ExprKind.{ExprKind}
use Rattle.mt_syntax.specs.declared.tree.Stmt.{Stmt}
use Rattle.mt_syntax.specs.declared.tree.StmtKind.{StmtKind}
use Rattle.mt_syntax_laws.proofs.Layers.{map_decl, map_expr, map_expr_kind, map_for_start, map_function, map_prop, map_stmt, map_stmt_kind}
use Rattle.mt_syntax_laws.proofs.Related.{on}
use Rattle.mt_json.specs.Reading.{many}
use Rattle.mt_json.proofs.Many.{many_more}
use Rattle.mt_json.proofs.Readings as json
use Rattle.mt_script_tree.specs.Reading.{stmts_at}
use Rattle.mt_script_read.specs.Readable.{IsReadable}
use Rattle.mt_script_read.proofs.Shortened.{shortened, shortened_body}
use Rattle.mt_script_read.proofs.ShortenedCode.{shortened_is_readable}
use Rattle.mt_script_read.proofs.Goodness.{AllGood, IsClean, good_expr, good_stmt}
use Rattle.mt_script_read.proofs.Induction.{Inherited, stmt_has}
use Rattle.mt_script_read.proofs.Leaves.{Leaf, Leaves}
use Rattle.mt_script_read.proofs.Limits.{readable_is_good}
use Rattle.mt_script_read.proofs.Read.{readable_code_is_found}
use Rattle.mt_script_read.proofs.Refilled.{leaves_of, same_by_leaves}
use Rattle.mt_script_read.proofs.SpelledExpressions.{kind_spelled}
use Rattle.mt_script_read.proofs.SpelledParts.{decl_is_spelled, function_is_spelled, prop_is_spelled, start_is_spelled}
use Rattle.mt_script_read.proofs.SpelledStatements.{stmt_kind_spelled}
use Rattle.mt_script_read.proofs.Spells.{ExprSpelled, HeldSpells, Spells, StmtIsSpelled, decl_rolled, expr_rolled, function_rolled, its, kind_rolled, prop_rolled, start_rolled, stmt_kind_rolled, stmt_rolled}
use Rattle.mt_script_read.proofs.Tokens.{AreKnown, IsKnown, Raw, Spelled, Token, join, nothing, raw, raw_of, shown, token_at}

-- ---- the tokens of code

expr_is_spelled : (y : ExprLayer HeldSpells) → ExprSpelled (map_expr its y)
expr_is_spelled y g =
    let k : ExprKind = shortened sort.ExprKind y.kind.0 in
    let good = good_expr (record { place = y.place; kind = k }) g in
    let places = and_parts (is_nowhere y.place) (on testing_nowhere sort.ExprKind k) good.1.no_places in
    let clean : IsClean sort.ExprKind k =
    record { plain_code = good.1.plain_code; filled_code = good.1.filled_code; no_places = places.1; short_texts = good.1.short_texts; small_values = good.1.small_values } in
    y.kind.1 (record { shaped = good.0; clean = clean })

stmt_is_spelled : (y : StmtLayer HeldSpells) → StmtIsSpelled (map_stmt its y)
stmt_is_spelled y g =
    let k : StmtKind = shortened sort.StmtKind y.kind.0 in
    let good = good_stmt (record { place = y.place; kind = k }) g in
    let places = and_parts (is_nowhere y.place) (on testing_nowhere sort.StmtKind k) good.1.no_places in
    let clean : IsClean sort.StmtKind k =
    record { plain_code = good.1.plain_code; filled_code = good.1.filled_code; no_places = places.1; short_texts = good.1.short_texts; small_values = good.1.small_values } in
    let told = y.kind.1 (record { shaped = good.0; clean = clean }) in
    record { spelled = told.spelled; block = told.block }

all_spelled : Inherited Spells
all_spelled = record {
  expr_kind = λ y. kind_rolled (map_expr_kind its y) (kind_spelled y);
  for_start = λ y. start_rolled (map_for_start its y) (start_is_spelled y);
  markup_child = λ y. tt;
  markup_value = λ y. tt;
  stmt_kind = λ y. stmt_kind_rolled (map_stmt_kind its y) (stmt_kind_spelled y);
  decl = λ y. decl_rolled (map_decl its y) (decl_is_spelled y);
  expr = λ y. expr_rolled (map_expr its y) (expr_is_spelled y);
  function = λ y. function_rolled (map_function its y) (function_is_spelled y);
  markup = λ y. tt;
  markup_attribute = λ y. tt;
  prop = λ y. prop_rolled (map_prop its y) (prop_is_spelled y);
  stmt = λ y. stmt_rolled (map_stmt its y) (stmt_is_spelled y);
}

body_spelled : (body : List Stmt) → AllGood sort.Stmt (shortened_body body) → Spelled true (code_text body) (code_text (shortened_body body)) (leaves_of body)
body_spelled [] g = nothing
body_spelled (s ∷ body) g = join (stmt_has Spells all_spelled s g.0).spelled (body_spelled body g.1) (λ rest e. refl)

code_spelled : (body : List Stmt) → IsCode body → Spelled true (code_text body) (code_text (shortened_body body)) (leaves_of body)
code_spelled body c = body_spelled body (readable_is_good (shortened_body body) (shortened_is_readable body c))

all_tokens : {text short : List ℕ} {leaves : Leaves} (p : Spelled true text short leaves) → many token_at (length p.tokens + 1) text ≡ Some (p.tokens, [])
unfolding many
all_tokens {text} p = ap (many token_at (length p.tokens + 1)) (sym (append-nil text)) ∙ p.reads 1 [] refl ∙ ap (λ (s : List Token). Some (s, [])) (append-nil p.tokens)

abbrev tokens_in : Option (List Token × List ℕ) → List Token
tokens_in None = []
tokens_in (Some r) = r.0

-- a text has one list of tokens
same_tokens : {text short short' : List ℕ} {leaves leaves' : Leaves} (p : Spelled true text short leaves) (q : Spelled true text short' leaves') → p.tokens ≡ q.tokens
same_tokens {text} p q =
    let m : ℕ = length p.tokens + 1 in
    let n : ℕ = length q.tokens + 1 in
    let one : many token_at (m + n) text ≡ Some (p.tokens, []) = many_more token_at m (m + n) text (p.tokens, []) (omega arith) (all_tokens p) in
    let two : many token_at (m + n) text ≡ Some (q.tokens, []) = many_more token_at n (m + n) text (q.tokens, []) (omega arith) (all_tokens q) in
    ap tokens_in (sym one ∙ two)

-- ---- leaves are known by their bytes

same_characters : (cs ds : List ℕ) → all_scalars cs ≡ true → all_scalars ds ≡ true → encodes cs ≡ encodes ds → cs ≡ ds
same_characters cs ds h k e = sym (chars-encodes cs h) ∙ ap chars e ∙ chars-encodes ds k

abbrev kind_of : Raw → ℕ
kind_of r = r.0

abbrev bytes_of : Raw → List ℕ
bytes_of r = r.1

same_leaf : (x y : Leaf) → IsKnown x → IsKnown y → raw x ≡ raw y → x ≡ y
same_leaf (Leaf.Name cs) (Leaf.Name ds) h k e = ap (λ s. Leaf.Name s) (same_characters cs ds h k (ap bytes_of e))
same_leaf (Leaf.Text cs) (Leaf.Text ds) h k e = ap (λ s. Leaf.Text s) (same_characters cs ds h k (ap bytes_of e))
same_leaf (Leaf.Value c) (Leaf.Value d) h k e = ap (λ s. Leaf.Value s) (json.one_text c d h k (ap bytes_of e))
same_leaf (Leaf.Name cs) (Leaf.Text ds) h k e = let n : 0 ≡ 1 = ap kind_of e in absurd (omega (arith, n))
same_leaf (Leaf.Name cs) (Leaf.Value d) h k e = let n : 0 ≡ 2 = ap kind_of e in absurd (omega (arith, n))
same_leaf (Leaf.Text cs) (Leaf.Name ds) h k e = let n : 1 ≡ 0 = ap kind_of e in absurd (omega (arith, n))
same_leaf (Leaf.Text cs) (Leaf.Value d) h k e = let n : 1 ≡ 2 = ap kind_of e in absurd (omega (arith, n))
same_leaf (Leaf.Value c) (Leaf.Name ds) h k e = let n : 2 ≡ 0 = ap kind_of e in absurd (omega (arith, n))
same_leaf (Leaf.Value c) (Leaf.Text ds) h k e = let n : 2 ≡ 1 = ap kind_of e in absurd (omega (arith, n))

abbrev first_in : List Raw → Raw
first_in [] = (0, [])
first_in (r ∷ rs) = r

abbrev others_in : List Raw → List Raw
others_in [] = []
others_in (r ∷ rs) = rs

same_leaves : (xs ys : List Leaf) → AreKnown xs → AreKnown ys → map raw xs ≡ map raw ys → xs ≡ ys
same_leaves [] [] h k e = refl
same_leaves [] (y ∷ ys) h k e = absurd (omega (arith, ap length e))
same_leaves (x ∷ xs) [] h k e = absurd (omega (arith, ap length e))
same_leaves (x ∷ xs) (y ∷ ys) h k e =
    let here = same_leaf x y h.0 k.0 (ap first_in e) in
    let others = same_leaves xs ys h.1 k.1 (ap others_in e) in λ i. here i ∷ others i

-- ---- codes

one_readable_text : (a b : List Stmt) → IsReadable a → IsReadable b → code_text a ≡ code_text b → a ≡ b
one_readable_text a b r s same =
    let n : ℕ = max (depth_of a) (depth_of b) in
    let x : stmts_at n (code_text a) ≡ Some a = readable_code_is_found n a r (omega arith) in
    let y : stmts_at n (code_text b) ≡ Some b = readable_code_is_found n b s (omega arith) in
    let e : Some a ≡ Some b = sym x ∙ ap (stmts_at n) same ∙ y in cc

pub one_text : (a b : List Stmt) → IsCode a → IsCode b → code_text a ≡ code_text b → a ≡ b
one_text a b c d same =
    let p = code_spelled a c in
    let q : Spelled true (code_text a) (code_text (shortened_body b)) (leaves_of b) = subst (λ t. Spelled true t (code_text (shortened_body b)) (leaves_of b)) (sym same) (code_spelled b d) in
    let tokens = same_tokens p q in
    let shortened_texts : code_text (shortened_body a) ≡ code_text (shortened_body b) = sym p.shows ∙ ap (flat_map shown) tokens ∙ q.shows in
    let leaves : map raw (leaves_of a []) ≡ map raw (leaves_of b []) = sym (p.holds []) ∙ ap (λ t. flat_map raw_of t ++ []) tokens ∙ q.holds [] in
    same_by_leaves a b (one_readable_text (shortened_body a) (shortened_body b) (shortened_is_readable a c) (shortened_is_readable b d) shortened_texts)
    (same_leaves (leaves_of a []) (leaves_of b []) (p.known [] tt) (q.known [] tt) leaves)
