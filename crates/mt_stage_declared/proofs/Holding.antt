-- The first of the declarations for which a predicate holds, in lists that are gone through from their start.
use Rattle.std.proofs.Common.{◌≡◌, ℕ, ◌+◌, ◌<◌, Bool, true, false, ◌||◌, List, [], ◌∷◌, ◌++◌, Option, None, Some, length, get_or, take, map, flat_map, sym, ap, ◌∙◌, refl}
use Rattle.std.proofs.lemmas.Grind.{flat_map-append}
use Rattle.std.proofs.lemmas.List.{append-nil, map-append}
use Rattle.std.specs.Prelude.{if◌then◌else◌, is_some, option_map}
use Rattle.std.specs.List.{list_any}
use Rattle.mt_syntax.specs.First.{first_of, earlier_of}
use Rattle.mt_syntax.proofs.Order.{first_of_lists}
use Rattle.mt_syntax.specs.declared.broken.Broken.{Broken}
use Rattle.mt_syntax.specs.Fold.{on_decl}
use Rattle.mt_syntax.specs.declared.tree.Decl.{Decl}
use Rattle.mt_syntax.specs.declared.tree.Decl as decl
use Rattle.mt_syntax.specs.declared.tree.Mark.{Mark}
use Rattle.mt_syntax.specs.declared.tree.Stmt.{Stmt}
use Rattle.mt_stage_declared.specs.Declarations.{Declared, declaration, declarations, declared, declaring, here_in, names_in, variables_in}
use Rattle.mt_stage_declared.specs.Repeated.{clash, twice_at, where_clashing, where_holding}
use Rattle.mt_stage_declared.specs.declared.declaration.Declaration.{Declaration}
use Rattle.mt_stage_declared.specs.declared.declaration.DeclarationKind.{DeclarationKind}
use Rattle.mt_syntax_laws.proofs.Related.{at_decl}
use Rattle.mt_stage_declared.proofs.Rows.{take_next}

-- ---- what is declared in a row with one part more

rows_more : {A C : Type 0} (f : A → Declared) (g : Declared → List C) (xs : List A) (x : A) → flat_map g (map f (xs ++ x ∷ [])) ≡ flat_map g (map f xs) ++ g (f x)
rows_more f g xs x =
    ap (flat_map g) (map-append f xs (x ∷ [])) ∙ flat_map-append g (map f xs) (f x ∷ []) ∙ ap (λ ys. flat_map g (map f xs) ++ ys) (append-nil (g (f x)))

pub marks_more : (k : DeclarationKind) (xs : List Mark) (x : Mark) → declarations k (xs ++ x ∷ []) ≡ declarations k xs ++ declaration k x ∷ []
marks_more k xs x = map-append (declaration k) xs (x ∷ [])

-- a `let` or `var` declares the name of each part
pub decl_names : (x : Decl) → (on_decl declaring x).names ≡ (decl.out-Decl x).name ∷ []
decl_names x = sym (ap (λ d. (on_decl declaring d).names) (decl.roll-out-Decl x)) ∙ ap (λ d. d.names) (at_decl declaring (decl.out-Decl x))

pub decls_more : (k : DeclarationKind) (xs : List Decl) (x : Decl)
    → declarations k (names_in (λ d. d) (map (on_decl declaring) (xs ++ x ∷ []))) ≡ declarations k (names_in (λ d. d) (map (on_decl declaring) xs)) ++ declarations k (on_decl declaring x).names
decls_more k xs x =
    ap (declarations k) (rows_more (on_decl declaring) (λ d. d.names) xs x) ∙ map-append (declaration k) (names_in (λ d. d) (map (on_decl declaring) xs)) (on_decl declaring x).names

pub here_more : (xs : List Stmt) (x : Stmt) → here_in (λ d. d) (map declared (xs ++ x ∷ [])) ≡ here_in (λ d. d) (map declared xs) ++ (declared x).here
here_more = rows_more declared (λ d. d.here)

pub variables_more : (xs : List Stmt) (x : Stmt) → variables_in (λ d. d) (map declared (xs ++ x ∷ [])) ≡ variables_in (λ d. d) (map declared xs) ++ (declared x).variables
variables_more = rows_more declared (λ d. d.variables)

-- ---- a predicate

module _ (holds : Declaration → Bool) where
  pub first_both : (ds es : List Declaration) → earlier_of (first_of (where_holding holds ds)) (first_of (where_holding holds es)) ≡ first_of (where_holding holds (ds ++ es))
  first_both ds es =
      sym (first_of_lists (where_holding holds ds) (where_holding holds es)) ∙ ap first_of (sym (flat_map-append (λ d. if holds d then twice_at d.name ∷ [] else []) ds es))

  -- `ds` lists what a row declares, and `part` what one part of it does
  module _ {A : Type 0} (ds : List A → List Declaration) (part : A → List Declaration) (more : (xs : List A) (x : A) → ds (xs ++ x ∷ []) ≡ ds xs ++ part x) where
    pub with_part : (xs : List A) (i : ℕ) (x : A) → i < length xs → x ≡ get_or xs i x
        → earlier_of (first_of (where_holding holds (ds (take i xs)))) (first_of (where_holding holds (part x))) ≡ first_of (where_holding holds (ds (take (i + 1) xs)))
    with_part xs i x lt is =
        first_both (ds (take i xs)) (part x) ∙ ap (λ es. first_of (where_holding holds es)) (sym (ap ds (take_next xs i x lt is) ∙ more (take i xs) x))

  -- there is a first one where there is one
  pub some_holds : (ds : List Declaration) → is_some (first_of (where_holding holds ds)) ≡ list_any holds ds
  some_holds [] = refl
  some_holds (d ∷ ds) = by (holds d) (first_of (where_holding holds ds)) refl (some_holds ds)
    where
      with_rest : Option Broken → Bool
      with_rest rest = is_some (earlier_of (Some (twice_at d.name)) rest)

      by : (b : Bool) (rest : Option Broken) → first_of (where_holding holds ds) ≡ rest → is_some (first_of (where_holding holds ds)) ≡ list_any holds ds
          → is_some (first_of ((if b then twice_at d.name ∷ [] else []) ++ where_holding holds ds)) ≡ (b || list_any holds ds)
      by true None e h = ap with_rest e
      by true (Some r) e h = ap with_rest e
      by false rest e h = h

-- ---- a declaration that clashes

where_found : (m : Broken) (other : Option Broken) → option_map (λ _. m) other ≡ first_of (if is_some other then m ∷ [] else [])
where_found m None = refl
where_found m (Some b) = refl

pub where_clashes : (d : Declaration) (ds : List Declaration) (other : Option Broken) → other ≡ first_of (where_holding (clash d) ds)
    → option_map (λ _. twice_at d.name) other ≡ first_of (where_clashing d ds)
where_clashes d ds other is =
    where_found (twice_at d.name) other ∙ ap (λ b. first_of (if b then twice_at d.name ∷ [] else [])) (ap is_some is ∙ some_holds (clash d) ds)
