-- Of the declarations of a scope, those that clash with one before them, where the list is cut in two.
use Rattle.std.proofs.Common.{◌≡◌, Bool, true, false, ◌||◌, List, [], ◌∷◌, ◌++◌, Option, None, Some, sym, ap, ◌∙◌, refl, append_assoc}
use Rattle.std.proofs.lemmas.List.{append-nil}
use Rattle.std.proofs.lemmas.List.Folds.{list_any-append}
use Rattle.std.specs.Prelude.{if◌then◌else◌, IsTrue, is_some, not}
use Rattle.std.specs.List.{list_any}
use Rattle.mt_syntax.specs.First.{first_of, earlier_of}
use Rattle.mt_syntax.proofs.Order.{first_of_lists, grouping, none, order, repetition}
use Rattle.mt_syntax.specs.declared.broken.Broken.{Broken}
use Rattle.mt_stage_declared.specs.Repeated.{clash, repeated, repeated_behind, twice_at, where_clashing, where_holding}
use Rattle.mt_stage_declared.specs.declared.declaration.Declaration.{Declaration}

repeated_behind_both : (before ds es : List Declaration) → repeated_behind before (ds ++ es) ≡ repeated_behind before ds ++ repeated_behind (before ++ ds) es
repeated_behind_both before [] es = ap (λ bs. repeated_behind bs es) (sym (append-nil before))
repeated_behind_both before (d ∷ ds) es =
    ap (λ bs. where_clashing d before ++ bs) (repeated_behind_both (before ++ d ∷ []) ds es ∙ ap (λ bs. repeated_behind (before ++ d ∷ []) ds ++ repeated_behind bs es) (append_assoc before (d ∷ []) ds))
    ∙ sym (append_assoc (where_clashing d before) (repeated_behind (before ++ d ∷ []) ds) (repeated_behind (before ++ d ∷ ds) es))

pub repeated_more : (ds : List Declaration) (d : Declaration) → repeated (ds ++ d ∷ []) ≡ repeated ds ++ where_clashing d ds
repeated_more ds d = repeated_behind_both [] ds (d ∷ []) ∙ ap (λ bs. repeated ds ++ bs) (append-nil (where_clashing d ds))

-- the first of a list that is cut
pub first_of_both : (ds es : List Declaration) → earlier_of (first_of (repeated ds)) (first_of (repeated_behind ds es)) ≡ first_of (repeated (ds ++ es))
first_of_both ds es = sym (first_of_lists (repeated ds) (repeated_behind ds es)) ∙ ap first_of (sym (repeated_behind_both [] ds es))

pub first_of_more : (ds : List Declaration) (d : Declaration) → earlier_of (first_of (repeated ds)) (first_of (where_clashing d ds)) ≡ first_of (repeated (ds ++ d ∷ []))
first_of_more ds d = sym (first_of_lists (repeated ds) (where_clashing d ds)) ∙ ap first_of (sym (repeated_more ds d))

-- ---- behind a list that is cut

abbrev at_place : Declaration → Bool → Option Broken
at_place d b = first_of (if b then twice_at d.name ∷ [] else [])

either_place : (d : Declaration) (a b : Bool) → at_place d (a || b) ≡ earlier_of (at_place d a) (at_place d b)
either_place d true true = sym (repetition (Some (twice_at d.name)))
either_place d true false = refl
either_place d false b = refl

clash_either : (d : Declaration) (before ds : List Declaration) → first_of (where_clashing d (before ++ ds)) ≡ earlier_of (first_of (where_clashing d before)) (first_of (where_clashing d ds))
clash_either d before ds = ap (at_place d) (list_any-append (clash d) before ds) ∙ either_place d (list_any (clash d) before) (list_any (clash d) ds)

joins : {a b c d : Option Broken} → a ≡ b → c ≡ d → earlier_of a c ≡ earlier_of b d
joins p q = λ i. earlier_of (p i) (q i)

crossed : (a b c d : Option Broken) → earlier_of (earlier_of a b) (earlier_of c d) ≡ earlier_of (earlier_of a c) (earlier_of b d)
crossed a b c d =
    sym (grouping a b (earlier_of c d)) ∙ ap (earlier_of a) (grouping b c d ∙ ap (λ x. earlier_of x d) (order b c) ∙ sym (grouping c b d)) ∙ grouping a c (earlier_of b d)

-- those that clash with one of the list `before`
abbrev pub behind : List Declaration → List Declaration → List Broken
behind before = where_holding (λ d. list_any (clash d) before)

apart : (before ds es : List Declaration) → first_of (repeated_behind (before ++ ds) es) ≡ earlier_of (first_of (behind before es)) (first_of (repeated_behind ds es))
apart before ds [] = refl
apart before ds (e ∷ es) =
    first_of_lists (where_clashing e (before ++ ds)) (repeated_behind ((before ++ ds) ++ e ∷ []) es)
    ∙ joins (clash_either e before ds) (ap (λ bs. first_of (repeated_behind bs es)) (append_assoc before ds (e ∷ [])) ∙ apart before (ds ++ e ∷ []) es)
    ∙ crossed (first_of (where_clashing e before)) (first_of (where_clashing e ds)) (first_of (behind before es)) (first_of (repeated_behind (ds ++ e ∷ []) es))
    ∙ sym (joins (first_of_lists (where_clashing e before) (behind before es)) (first_of_lists (where_clashing e ds) (repeated_behind (ds ++ e ∷ []) es)))

pub first_behind : (before es : List Declaration) → first_of (repeated_behind before es) ≡ earlier_of (first_of (behind before es)) (first_of (repeated es))
first_behind before es = ap (λ bs. first_of (repeated_behind bs es)) (sym (append-nil before)) ∙ apart before [] es

-- ---- no first one

pub none_tells : (bs : List Broken) (r : Option Broken) (empty : Bool) → first_of bs ≡ r → is_some r ≡ not empty → (IsTrue empty → bs ≡ []) × (bs ≡ [] → IsTrue empty)
none_tells bs None true e tells = (λ _. none bs e, λ _. refl)
none_tells bs None false e tells = absurd (cc)
none_tells bs (Some b) true e tells = absurd (cc)
none_tells bs (Some b) false e tells = (λ h. absurd (cc), λ empty. let f : None ≡ Some b = sym (ap first_of empty) ∙ e in absurd (cc))
