-- Keys and calls are read from their texts, behind their bases.
use Rattle.std.proofs.Common.{◌≡◌, ℕ, suc, ◌<◌, ◌≤◌, max, true, List, [], ◌∷◌, ◌++◌, map, Some, refl, sym, ap, subst, ◌∙◌, append_assoc, arith}
use Rattle.std.proofs.lemmas.Bool.{and_parts}
use Rattle.mt_syntax.specs.CodeText.{expr_kind_text, expr_text, writing_code}
use Rattle.mt_syntax.specs.DataText.{separated}
use Rattle.mt_syntax.specs.Depth.{depth_of_expr, measuring, nothing}
use Rattle.mt_syntax.specs.Fold.{on_expr}
use Rattle.mt_syntax.specs.Gathering.{all_of}
use Rattle.mt_syntax.specs.Shape.{all_fit, shaping}
use Rattle.mt_syntax.specs.Sort as sort
use Rattle.mt_syntax.specs.declared.tree.Expr.{Expr}
use Rattle.mt_syntax.specs.declared.tree.ExprKind.{ExprKind, roll-ExprKind}
use Rattle.mt_syntax.specs.declared.tree.ExprKind.TheOpen.{ExprKind-F}
use Rattle.mt_syntax_laws.proofs.Related.{at_expr_kind}
use Rattle.mt_script_words.specs.Words.{word_of}
use Rattle.mt_script_words.proofs.PlainWords.{IsPlainWord}
use Rattle.mt_script_words.proofs.WordTexts.{ends_word}
use Rattle.mt_script_tree.specs.Expressions.{chain_at, grown_at}
use Rattle.mt_script_tree.specs.Lists.{list_by}
use Rattle.mt_script_tree.specs.Made as made
use Rattle.mt_script_tree.specs.Reading.{expr_at}
use Rattle.mt_script_read.proofs.Ends.{chain_turns}
use Rattle.mt_script_read.proofs.Facts.{ExprFacts, ReadsKind, depth_of_kind, depth_of_made, text_of_made, whole}
use Rattle.mt_script_read.proofs.Goodness.{AllGood, AreClean, Good, IsClean, clean_with, good_expr_kind, good_rows}
use Rattle.mt_script_read.proofs.Heads.{HeldExpr, expr_items}
use Rattle.mt_script_read.proofs.Items.{list_read}
use Rattle.mt_script_read.proofs.Operations.{two_good}

-- what stands behind a base, in brackets or parentheses, makes another expression of it
grows : (k : ExprKind) (a : Expr) (f : ExprFacts a) (c : ℕ) (more : List ℕ) → expr_kind_text k ≡ expr_text a ++ c ∷ more → ends_word (c ∷ more) ≡ true → depth_of_expr a ≤ depth_of_kind k
    → ((n : ℕ) (rest : List ℕ) → depth_of_kind k ≤ n → grown_at (expr_at n) a (c ∷ (more ++ rest)) ≡ Some ((true, made.expr k), rest)) → ExprFacts (made.expr k)
unfolding chain_at
grows k a f c more text e small h =
    let b = f.begins in
    let whole_text : expr_text (made.expr k) ≡ expr_text a ++ c ∷ more = text_of_made k ∙ text in
    let with_rest : (rest : List ℕ) → expr_text (made.expr k) ++ rest ≡ expr_text a ++ c ∷ (more ++ rest) = λ rest. ap (λ s. s ++ rest) whole_text ∙ append_assoc (expr_text a) (c ∷ more) rest in
    record {
      begins = record { head = b.head; tail = b.tail ++ c ∷ more; whole = whole_text ∙ ap (λ s. s ++ c ∷ more) b.whole; is = b.is };
      leads = λ rest e'. subst (λ s. IsPlainWord (word_of s)) (sym (with_rest rest)) (f.leads (c ∷ (more ++ rest)) e);
      deep = omega (arith, depth_of_made k);
      reads = λ n t rest x deep e' chain.
          let turns : 0 < t = chain_turns (expr_at n) t (made.expr k) rest x chain in
          let one : chain_at (expr_at n) (suc t) a (c ∷ (more ++ rest)) ≡ Some x = rw (h n rest (omega (arith, depth_of_made k))) chain in
          ap (expr_at (suc n)) (with_rest rest) ∙ f.reads n (suc t) (c ∷ (more ++ rest)) x (omega (arith, depth_of_made k)) e one;
    }

pub reads_key : (a b : HeldExpr) → ReadsKind (ExprKind-F.Index a.0 b.0)
reads_key a b g =
    let k : ExprKind = roll-ExprKind (ExprKind-F.Index a.0 b.0) in
    let good = good_expr_kind (ExprKind-F.Index a.0 b.0) g in
    let both = two_good sort.Expr sort.Expr a.0 b.0 good.0 good.1 in
    let text : expr_kind_text k ≡ expr_text a.0 ++ 91 ∷ (expr_text b.0 ++ 93 ∷ []) = at_expr_kind writing_code (ExprKind-F.Index a.0 b.0) in
    let depth : depth_of_kind k ≡ max (depth_of_expr a.0) (depth_of_expr b.0) = at_expr_kind (measuring nothing nothing) (ExprKind-F.Index a.0 b.0) in
    grows k a.0 (a.1 both.0) 91 (expr_text b.0 ++ 93 ∷ []) text refl (omega (arith, depth))
    (λ n rest deep. ap (λ s. grown_at (expr_at n) a.0 (91 ∷ s)) (append_assoc (expr_text b.0) (93 ∷ []) rest) ∙ rw (whole b.0 (b.1 both.1) n (93 ∷ rest) (omega (arith, depth)) refl) refl)

pub reads_call : (a : HeldExpr) (es : List HeldExpr) → ReadsKind (ExprKind-F.Call a.0 (map (λ (h : HeldExpr). h.0) es))
reads_call a es g =
    let items : List Expr = map (λ (h : HeldExpr). h.0) es in
    let k : ExprKind = roll-ExprKind (ExprKind-F.Call a.0 items) in
    let good = good_expr_kind (ExprKind-F.Call a.0 items) g in
    let fits = and_parts (on_expr shaping a.0).fits (all_fit (map (on_expr shaping) items)) good.0 in
    let cleans : IsClean sort.Expr a.0 × AreClean sort.Expr items = clean_with sort.Expr a.0 good.1 in
    let good_a : Good sort.Expr a.0 = record { shaped = fits.0; clean = cleans.0 } in
    let all : AllGood sort.Expr items = good_rows sort.Expr items fits.1 cleans.1 in
    let text : expr_kind_text k ≡ expr_text a.0 ++ 40 ∷ (separated (map expr_text items) ++ 41 ∷ []) = at_expr_kind writing_code (ExprKind-F.Call a.0 items) in
    let depth : depth_of_kind k ≡ max (depth_of_expr a.0) (all_of 0 max (map depth_of_expr items)) = at_expr_kind (measuring nothing nothing) (ExprKind-F.Call a.0 items) in
    grows k a.0 (a.1 good_a) 40 (separated (map expr_text items) ++ 41 ∷ []) text refl (omega (arith, depth))
    (λ n rest deep.
    let list : list_by 41 (expr_at n) (separated (map expr_text items) ++ 41 ∷ rest) ≡ Some (items, rest) =
    list_read expr_text 41 (expr_at n) refl (λ r. refl) items rest (expr_items 41 refl n es all (omega (arith, depth))) in
    ap (λ s. grown_at (expr_at n) a.0 (40 ∷ s)) (append_assoc (separated (map expr_text items)) (41 ∷ []) rest) ∙ rw list refl)
