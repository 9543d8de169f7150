-- The tokens of statements.
use Rattle.std.proofs.Common.{◌≡◌, ℕ, max, Bool, true, false, ◌&&◌, List, ◌∷◌, ◌++◌, map, Option, Some, None, refl, sym, ap, ◌∙◌, append_assoc, arith}
use Rattle.std.specs.Prelude.{codes, option_map}
use Rattle.std.proofs.lemmas.Bool.{and_parts}
use Rattle.mt_syntax.specs.CodeText.{or_nothing, writing_code}
use Rattle.mt_syntax.specs.Codes.{mark_is_nowhere, testing_filled, testing_nowhere, testing_plain}
use Rattle.mt_syntax.specs.Fold.{StmtKindLayer}
use Rattle.mt_syntax.specs.Gathering.{or_none}
use Rattle.mt_syntax.specs.Shape.{block_fits, is_block, is_named, mark_fits, optional_fits, shaping}
use Rattle.mt_syntax.specs.Sort as sort
use Rattle.mt_syntax.specs.Texts.{measuring_texts}
use Rattle.mt_syntax.specs.declared.tree.Expr.{Expr}
use Rattle.mt_syntax.specs.declared.tree.ForStart.{ForStart}
use Rattle.mt_syntax.specs.declared.tree.Function.{Function}
use Rattle.mt_syntax.specs.declared.tree.Mark.{Mark}
use Rattle.mt_syntax.specs.declared.tree.Stmt.{Stmt}
use Rattle.mt_syntax.specs.declared.tree.ExprKind.TheOpen.{StmtKind-F}
use Rattle.mt_syntax_laws.proofs.Layers.{map_stmt_kind}
use Rattle.mt_syntax_laws.proofs.Related.{on}
use Rattle.mt_script_words.proofs.WordTexts.{ends_word}
use Rattle.mt_script_read.proofs.Shortened.{shortened, name_kept, short_mark}
use Rattle.mt_script_read.proofs.Bodies.{CleanRest, clean_optional}
use Rattle.mt_script_read.proofs.Clauses.{statements_fit}
use Rattle.mt_script_read.proofs.Goodness.{AllGood, AreBothClean, Clean, GoodIfAny, IsClean, IsCleanIfAny, clean_with, good_if_any, good_rows, good_stmt_kind, testing_within}
use Rattle.mt_script_read.proofs.Leaves.{Leaves, leaving, no_leaves, then_leaves}
use Rattle.mt_script_read.proofs.SpelledParts.{block_spelled, decls_spelled, var_spelled}
use Rattle.mt_script_read.proofs.Spells.{HeldSpells, StmtKindSpelled, StmtSpelled, its}
use Rattle.mt_script_read.proofs.Tokens.{Spelled, join, loose, name_spelled, nothing, signs, word}

never : {X : Type 0} → false ≡ true → X
never e = absurd cc

-- ---- words with a sign behind them

if_front : Spelled true (codes "if(") (codes "if(") no_leaves
if_front = join (word 105 (codes "f") refl refl) (signs (codes "(") refl) (λ rest e. refl)

while_front : Spelled true (codes "while(") (codes "while(") no_leaves
while_front = join (word 119 (codes "hile") refl refl) (signs (codes "(") refl) (λ rest e. refl)

for_front : Spelled true (codes "for(") (codes "for(") no_leaves
for_front = join (word 102 (codes "or") refl refl) (signs (codes "(") refl) (λ rest e. refl)

catch_front : Spelled true (codes "catch(") (codes "catch(") no_leaves
catch_front = join (word 99 (codes "atch") refl refl) (signs (codes "(") refl) (λ rest e. refl)

throw_front : Spelled true (codes "throw ") (codes "throw ") no_leaves
throw_front = join (word 116 (codes "hrow") refl refl) (signs (codes " ") refl) (λ rest e. refl)

jump : (b : ℕ) (bs : List ℕ) → Spelled false (b ∷ bs) (b ∷ bs) no_leaves → Spelled true ((b ∷ bs) ++ codes ";") ((b ∷ bs) ++ codes ";") no_leaves
jump b bs p = join p (signs (codes ";") refl) (λ rest e. refl)

-- ---- parts of statements

abbrev StmtIs : HeldSpells sort.Stmt → Type 0
StmtIs b = StmtSpelled (on writing_code sort.Stmt b.0) (on writing_code sort.Stmt (shortened sort.Stmt b.0)) (on leaving sort.Stmt b.0) (on shaping sort.Stmt (shortened sort.Stmt b.0)).look

-- the body of another statement
record BodySpelled (b : HeldSpells sort.Stmt) : Type 0 where
  spelled : Spelled true (on writing_code sort.Stmt b.0) (on writing_code sort.Stmt (shortened sort.Stmt b.0)) (on leaving sort.Stmt b.0)
  ends : (more : List ℕ) → ends_word (on writing_code sort.Stmt b.0 ++ more) ≡ true

body_spelled : (b : HeldSpells sort.Stmt) → block_fits (on shaping sort.Stmt (shortened sort.Stmt b.0)) ≡ true → IsClean sort.Stmt (shortened sort.Stmt b.0) → BodySpelled b
body_spelled b fit clean =
    let s : Stmt = shortened sort.Stmt b.0 in
    let parts = and_parts (is_block (on shaping sort.Stmt s).look) (on shaping sort.Stmt s).fits fit in
    let told = b.1 (record { shaped = parts.1; clean = clean }) in record { spelled = told.spelled; ends = told.block parts.0 }

abbrev shortened_if_any : Option (HeldSpells sort.Expr) → Option Expr
shortened_if_any o = option_map (shortened sort.Expr) (option_map (its sort.Expr) o)

-- an expression that may be absent
optional_spelled : (o : Option (HeldSpells sort.Expr)) → GoodIfAny sort.Expr (shortened_if_any o)
    → Spelled false (or_nothing (option_map (on writing_code sort.Expr) (option_map (its sort.Expr) o))) (or_nothing (option_map (on writing_code sort.Expr) (shortened_if_any o)))
    (or_none no_leaves then_leaves (option_map (on leaving sort.Expr) (option_map (its sort.Expr) o)))
optional_spelled None g = loose nothing
optional_spelled (Some a) g = a.1 g

-- ---- loops and choices

while_spelled : (a : HeldSpells sort.Expr) (b : HeldSpells sort.Stmt) → StmtKindSpelled (StmtKind-F.While a.0 b.0)
while_spelled a b g =
    let test : Expr = shortened sort.Expr a.0 in
    let body : Stmt = shortened sort.Stmt b.0 in
    let good = good_stmt_kind (StmtKind-F.While test body) g in
    let fits = and_parts (on shaping sort.Expr test).fits (block_fits (on shaping sort.Stmt body)) good.0 in
    let cleans : IsClean sort.Expr test × IsClean sort.Stmt body = clean_with sort.Expr test good.1 in
    let last = join (signs (codes ")") refl) (body_spelled b fits.1 cleans.1).spelled (λ rest e. refl) in
    record { spelled = join while_front (join (a.1 (record { shaped = fits.0; clean = cleans.0 })) last (λ rest e. refl)) (λ rest e. refl); block = λ is. never is }

if_spelled : (a : HeldSpells sort.Expr) (b : HeldSpells sort.Stmt) → StmtKindSpelled (StmtKind-F.If a.0 b.0 None)
if_spelled a b g =
    let test : Expr = shortened sort.Expr a.0 in
    let body : Stmt = shortened sort.Stmt b.0 in
    let good = good_stmt_kind (StmtKind-F.If test body None) g in
    let outer = and_parts ((on shaping sort.Expr test).fits && block_fits (on shaping sort.Stmt body)) true good.0 in
    let fits = and_parts (on shaping sort.Expr test).fits (block_fits (on shaping sort.Stmt body)) outer.0 in
    let cleans : IsClean sort.Expr test × Clean (on testing_plain sort.Stmt body && true) (on testing_filled sort.Stmt body && true) (on testing_nowhere sort.Stmt body && true)
    (max (on measuring_texts sort.Stmt body) 0) (on testing_within sort.Stmt body && true) =
    clean_with sort.Expr test good.1 in
    let clean : IsClean sort.Stmt body × Clean true true true 0 true = clean_with sort.Stmt body cleans.1 in
    let last = join (signs (codes ")") refl) (join (body_spelled b fits.1 clean.0).spelled nothing (λ rest e. refl)) (λ rest e. refl) in
    record { spelled = join if_front (join (a.1 (record { shaped = fits.0; clean = cleans.0 })) last (λ rest e. refl)) (λ rest e. refl); block = λ is. never is }

if_else_spelled : (a : HeldSpells sort.Expr) (b c : HeldSpells sort.Stmt) → StmtKindSpelled (StmtKind-F.If a.0 b.0 (Some c.0))
if_else_spelled a b c g =
    let test : Expr = shortened sort.Expr a.0 in
    let body : Stmt = shortened sort.Stmt b.0 in
    let other : Stmt = shortened sort.Stmt c.0 in
    let good = good_stmt_kind (StmtKind-F.If test body (Some other)) g in
    let outer = and_parts ((on shaping sort.Expr test).fits && block_fits (on shaping sort.Stmt body)) (block_fits (on shaping sort.Stmt other)) good.0 in
    let fits = and_parts (on shaping sort.Expr test).fits (block_fits (on shaping sort.Stmt body)) outer.0 in
    let cleans : IsClean sort.Expr test × AreBothClean sort.Stmt sort.Stmt body other = clean_with sort.Expr test good.1 in
    let bodies : IsClean sort.Stmt body × IsClean sort.Stmt other = clean_with sort.Stmt body cleans.1 in
    let second = body_spelled c outer.1 bodies.1 in
    let else_part : Spelled true (codes "else" ++ on writing_code sort.Stmt c.0) (codes "else" ++ on writing_code sort.Stmt other) (on leaving sort.Stmt c.0) =
    join (word 101 (codes "lse") refl refl) second.spelled (λ rest e. second.ends rest) in
    let last = join (signs (codes ")") refl) (join (body_spelled b fits.1 bodies.0).spelled else_part (λ rest e. refl)) (λ rest e. refl) in
    record { spelled = join if_front (join (a.1 (record { shaped = fits.0; clean = cleans.0 })) last (λ rest e. refl)) (λ rest e. refl); block = λ is. never is }

module _ (a : HeldSpells sort.ForStart) (b c : Option (HeldSpells sort.Expr)) (d : HeldSpells sort.Stmt) where
  abbrev start : ForStart
  start = shortened sort.ForStart a.0

  abbrev test : Option Expr
  test = shortened_if_any b

  abbrev step : Option Expr
  step = shortened_if_any c

  abbrev body : Stmt
  body = shortened sort.Stmt d.0

  -- the text of a `for`, by those of its parts
  abbrev for_text : List ℕ → Option (List ℕ) → Option (List ℕ) → List ℕ → List ℕ
  for_text first second third last = codes "for(" ++ (first ++ (codes ";" ++ (or_nothing second ++ (codes ";" ++ (or_nothing third ++ (codes ")" ++ last))))))

  abbrev leaves_of_any : Option (HeldSpells sort.Expr) → Leaves
  leaves_of_any o = or_none no_leaves then_leaves (option_map (on leaving sort.Expr) (option_map (its sort.Expr) o))

  abbrev text_of_any : Option (HeldSpells sort.Expr) → Option (List ℕ)
  text_of_any o = option_map (on writing_code sort.Expr) (option_map (its sort.Expr) o)

  abbrev first_fit : Bool
  first_fit = (on shaping sort.ForStart start).fits && optional_fits (option_map (on shaping sort.Expr) test)

  for_by : ((first_fit && optional_fits (option_map (on shaping sort.Expr) step)) && block_fits (on shaping sort.Stmt body)) ≡ true → IsClean sort.ForStart start → IsCleanIfAny sort.Expr test
      → IsCleanIfAny sort.Expr step → IsClean sort.Stmt body
      → Spelled true (for_text (on writing_code sort.ForStart a.0) (text_of_any b) (text_of_any c) (on writing_code sort.Stmt d.0))
      (for_text (on writing_code sort.ForStart start) (option_map (on writing_code sort.Expr) test) (option_map (on writing_code sort.Expr) step) (on writing_code sort.Stmt body))
      (λ ls. on leaving sort.ForStart a.0 (leaves_of_any b (leaves_of_any c (on leaving sort.Stmt d.0 ls))))
  for_by fit clean_a clean_b clean_c clean_d =
      let three = and_parts (first_fit && optional_fits (option_map (on shaping sort.Expr) step)) (block_fits (on shaping sort.Stmt body)) fit in
      let two = and_parts first_fit (optional_fits (option_map (on shaping sort.Expr) step)) three.0 in
      let one = and_parts (on shaping sort.ForStart start).fits (optional_fits (option_map (on shaping sort.Expr) test)) two.0 in
      let last = join (signs (codes ")") refl) (body_spelled d three.1 clean_d).spelled (λ rest e. refl) in
      let third = join (signs (codes ";") refl) (join (optional_spelled c (good_if_any sort.Expr step two.1 clean_c)) last (λ rest e. refl)) (λ rest e. refl) in
      let second = join (signs (codes ";") refl) (join (optional_spelled b (good_if_any sort.Expr test one.1 clean_b)) third (λ rest e. refl)) (λ rest e. refl) in
      join for_front (join (a.1 (record { shaped = one.0; clean = clean_a })) second (λ rest e. refl)) (λ rest e. refl)

for_spelled : (a : HeldSpells sort.ForStart) (b c : Option (HeldSpells sort.Expr)) (d : HeldSpells sort.Stmt) → StmtKindSpelled (map_stmt_kind its (StmtKind-F.For a b c d))
for_spelled a None None d g =
    let good = good_stmt_kind (StmtKind-F.For (shortened sort.ForStart a.0) None None (shortened sort.Stmt d.0)) g in
    let start : IsClean sort.ForStart (shortened sort.ForStart a.0) × CleanRest None None (shortened sort.Stmt d.0) = clean_with sort.ForStart (shortened sort.ForStart a.0) good.1 in
    let test = clean_optional None start.1 in
    let step : IsCleanIfAny sort.Expr None × IsClean sort.Stmt (shortened sort.Stmt d.0) = clean_optional None test.1 in
    record { spelled = for_by a None None d good.0 start.0 test.0 step.0 step.1; block = λ is. never is }
for_spelled a None (Some c) d g =
    let e : Expr = shortened sort.Expr c.0 in
    let good = good_stmt_kind (StmtKind-F.For (shortened sort.ForStart a.0) None (Some e) (shortened sort.Stmt d.0)) g in
    let start : IsClean sort.ForStart (shortened sort.ForStart a.0) × CleanRest None (Some e) (shortened sort.Stmt d.0) = clean_with sort.ForStart (shortened sort.ForStart a.0) good.1 in
    let test = clean_optional None start.1 in
    let step : IsCleanIfAny sort.Expr (Some e) × IsClean sort.Stmt (shortened sort.Stmt d.0) = clean_optional (Some e) test.1 in
    record { spelled = for_by a None (Some c) d good.0 start.0 test.0 step.0 step.1; block = λ is. never is }
for_spelled a (Some b) None d g =
    let e : Expr = shortened sort.Expr b.0 in
    let good = good_stmt_kind (StmtKind-F.For (shortened sort.ForStart a.0) (Some e) None (shortened sort.Stmt d.0)) g in
    let start : IsClean sort.ForStart (shortened sort.ForStart a.0) × CleanRest (Some e) None (shortened sort.Stmt d.0) = clean_with sort.ForStart (shortened sort.ForStart a.0) good.1 in
    let test = clean_optional (Some e) start.1 in
    let step : IsCleanIfAny sort.Expr None × IsClean sort.Stmt (shortened sort.Stmt d.0) = clean_optional None test.1 in
    record { spelled = for_by a (Some b) None d good.0 start.0 test.0 step.0 step.1; block = λ is. never is }
for_spelled a (Some b) (Some c) d g =
    let e : Expr = shortened sort.Expr b.0 in
    let f : Expr = shortened sort.Expr c.0 in
    let good = good_stmt_kind (StmtKind-F.For (shortened sort.ForStart a.0) (Some e) (Some f) (shortened sort.Stmt d.0)) g in
    let start : IsClean sort.ForStart (shortened sort.ForStart a.0) × CleanRest (Some e) (Some f) (shortened sort.Stmt d.0) = clean_with sort.ForStart (shortened sort.ForStart a.0) good.1 in
    let test = clean_optional (Some e) start.1 in
    let step : IsCleanIfAny sort.Expr (Some f) × IsClean sort.Stmt (shortened sort.Stmt d.0) = clean_optional (Some f) test.1 in
    record { spelled = for_by a (Some b) (Some c) d good.0 start.0 test.0 step.0 step.1; block = λ is. never is }

-- ---- try

try_spelled : (a : HeldSpells sort.Stmt) (name : Mark) (b : HeldSpells sort.Stmt) → StmtKindSpelled (StmtKind-F.Try a.0 name b.0)
try_spelled a name b g =
    let s : Stmt = shortened sort.Stmt a.0 in
    let t : Stmt = shortened sort.Stmt b.0 in
    let good = good_stmt_kind (StmtKind-F.Try s (short_mark name) t) g in
    let outer = and_parts (block_fits (on shaping sort.Stmt s) && mark_fits (short_mark name)) (block_fits (on shaping sort.Stmt t)) good.0 in
    let inner = and_parts (block_fits (on shaping sort.Stmt s)) (mark_fits (short_mark name)) outer.0 in
    let places = and_parts (on testing_nowhere sort.Stmt s && mark_is_nowhere (short_mark name)) (on testing_nowhere sort.Stmt t) good.1.no_places in
    let first = and_parts (on testing_nowhere sort.Stmt s) (mark_is_nowhere (short_mark name)) places.0 in
    let plain = and_parts (on testing_plain sort.Stmt s) (on testing_plain sort.Stmt t) good.1.plain_code in
    let filled = and_parts (on testing_filled sort.Stmt s) (on testing_filled sort.Stmt t) good.1.filled_code in
    let within = and_parts (on testing_within sort.Stmt s) (on testing_within sort.Stmt t) good.1.small_values in
    let clean_s : IsClean sort.Stmt s = record { plain_code = plain.0; filled_code = filled.0; no_places = first.0; short_texts = omega (arith, good.1.short_texts); small_values = within.0 } in
    let clean_t : IsClean sort.Stmt t = record { plain_code = plain.1; filled_code = filled.1; no_places = places.1; short_texts = omega (arith, good.1.short_texts); small_values = within.1 } in
    let body = body_spelled a inner.0 clean_s in
    let handler = join (signs (codes ")") refl) (body_spelled b outer.1 clean_t).spelled (λ rest e. refl) in
    let last = join catch_front (join (name_spelled name.name (sym (name_kept name.name) ∙ inner.1)) handler (λ rest e. refl)) (λ rest e. refl) in
    record {
      spelled = join (word 116 (codes "ry") refl refl) (join body.spelled last (λ rest e. refl)) (λ rest e. ap ends_word (append_assoc (on writing_code sort.Stmt a.0) _ rest) ∙ body.ends _);
      block = λ is. never is;
    }

-- ---- nodes

pub stmt_kind_spelled : (y : StmtKindLayer HeldSpells) → StmtKindSpelled (map_stmt_kind its y)
stmt_kind_spelled (StmtKind-F.StmtKind::Expr a) g =
    let good = good_stmt_kind (StmtKind-F.StmtKind::Expr (shortened sort.Expr a.0)) g in
    record { spelled = join (a.1 (record { shaped = good.0; clean = good.1 })) (signs (codes ";") refl) (λ rest e. refl); block = λ is. never is }
stmt_kind_spelled (StmtKind-F.StmtKind::Var kind ds) g =
    let good = good_stmt_kind (StmtKind-F.StmtKind::Var kind (map (shortened sort.Decl) (map (its sort.Decl) ds))) g in
    record { spelled = join (var_spelled kind) (join (decls_spelled kind ds good.0 good.1) (signs (codes ";") refl) (λ rest e. refl)) (λ rest e. refl); block = λ is. never is }
stmt_kind_spelled (StmtKind-F.Function f) g =
    let h : Function = shortened sort.Function f.0 in
    let good = good_stmt_kind (StmtKind-F.Function h) g in
    let fits = and_parts (is_named (on shaping sort.Function h).look) (on shaping sort.Function h).fits good.0 in
    let told = f.1 (record { shaped = fits.1; clean = good.1 }) in
    record { spelled = join (word 102 (codes "unction") refl refl) told.spelled (λ rest e. told.ends rest); block = λ is. never is }
stmt_kind_spelled (StmtKind-F.Service f) g = never (good_stmt_kind (StmtKind-F.Service (shortened sort.Function f.0)) g).1.plain_code
stmt_kind_spelled (StmtKind-F.If a b None) g = if_spelled a b g
stmt_kind_spelled (StmtKind-F.If a b (Some c)) g = if_else_spelled a b c g
stmt_kind_spelled (StmtKind-F.While a b) g = while_spelled a b g
stmt_kind_spelled (StmtKind-F.For a b c d) g = for_spelled a b c d g
stmt_kind_spelled (StmtKind-F.Return None) g = record { spelled = jump 114 (codes "eturn") (word 114 (codes "eturn") refl refl); block = λ is. never is }
stmt_kind_spelled (StmtKind-F.Return (Some a)) g =
    let good = good_stmt_kind (StmtKind-F.Return (Some (shortened sort.Expr a.0))) g in
    let value = join (a.1 (record { shaped = good.0; clean = good.1 })) (signs (codes ";") refl) (λ rest e. refl) in
    record { spelled = join (word 114 (codes "eturn") refl refl) (join (signs (codes " ") refl) value (λ rest e. refl)) (λ rest e. refl); block = λ is. never is }
stmt_kind_spelled StmtKind-F.Break g = record { spelled = jump 98 (codes "reak") (word 98 (codes "reak") refl refl); block = λ is. never is }
stmt_kind_spelled StmtKind-F.Continue g = record { spelled = jump 99 (codes "ontinue") (word 99 (codes "ontinue") refl refl); block = λ is. never is }
stmt_kind_spelled (StmtKind-F.Throw a) g =
    let good = good_stmt_kind (StmtKind-F.Throw (shortened sort.Expr a.0)) g in
    record { spelled = join throw_front (join (a.1 (record { shaped = good.0; clean = good.1 })) (signs (codes ";") refl) (λ rest e. refl)) (λ rest e. refl); block = λ is. never is }
stmt_kind_spelled (StmtKind-F.Try a name b) g = try_spelled a name b g
stmt_kind_spelled (StmtKind-F.Block ss) g =
    let items : List Stmt = map (shortened sort.Stmt) (map (its sort.Stmt) ss) in
    let good = good_stmt_kind (StmtKind-F.Block items) g in
    let all : AllGood sort.Stmt items = good_rows sort.Stmt items (statements_fit items good.0).0 good.1 in record { spelled = block_spelled ss all; block = λ is more. refl }
stmt_kind_spelled StmtKind-F.Empty g = record { spelled = signs (codes ";") refl; block = λ is. never is }
