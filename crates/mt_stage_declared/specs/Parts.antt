-- Results on trees, each beside what the tree declares.
use Rattle.std.specs.Prelude.{List, [], ◌∷◌, Option}
use Rattle.mt_syntax.specs.Fold.{Every, Steps}
use Rattle.mt_syntax.specs.Gathering.{all_of, or_none, gathering}
use Rattle.mt_stage_declared.specs.Declarations.{Declared, nothing, giving, own_name, declared_by_kind, declared_by_start}

pub record Part (X : Type 0) : Type 0 where
  pub declared : Declared
  pub found : X

abbrev pub finding_only : {X : Type 0} → X → Part X
finding_only found = record { declared = nothing; found = found }

-- the same results, with what each node declares
abbrev pub with_declared : {X : Type 0} → Steps (Every (Part X)) → Steps (Every (Part X))
with_declared steps = record {
  expr_kind = λ x. finding_only (steps.expr_kind x).found;
  for_start = λ x. record { declared = declared_by_start (λ p. p.declared) x; found = (steps.for_start x).found };
  markup_child = λ x. finding_only (steps.markup_child x).found;
  markup_value = λ x. finding_only (steps.markup_value x).found;
  stmt_kind = λ x. record { declared = declared_by_kind (λ p. p.declared) x; found = (steps.stmt_kind x).found };
  decl = λ x. record { declared = giving (x.name ∷ []); found = (steps.decl x).found };
  expr = λ x. finding_only (steps.expr x).found;
  function = λ x. record { declared = giving (own_name x.name); found = (steps.function x).found };
  markup = λ x. finding_only (steps.markup x).found;
  markup_attribute = λ x. finding_only (steps.markup_attribute x).found;
  prop = λ x. finding_only (steps.prop x).found;
  stmt = λ x. record { declared = x.kind.declared; found = (steps.stmt x).found };
}

-- `none` is found where nothing stands, and `join` is of what is found in parts.
module _ {X : Type 0} (none : X) (join : X → X → X) where
  abbrev pub empty : Part X
  empty = finding_only none

  abbrev pub both : Part X → Part X → Part X
  both a b = finding_only (join a.found b.found)

  -- what is found in a row
  abbrev pub found_in : List (Part X) → X
  found_in ps = (all_of empty both ps).found

  abbrev pub optional_found : Option (Part X) → X
  optional_found p = (or_none empty both p).found

  abbrev pub gathering_found : Steps (Every (Part X))
  gathering_found = gathering empty both
