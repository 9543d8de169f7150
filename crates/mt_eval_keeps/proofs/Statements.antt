-- The forms of statements, the variables of an activation, and new functions.
use Rattle.std.proofs.Common.{ℕ, zero, suc, ◌+◌, nat_lt, List, [], ◌∷◌, Option, None, Some, Bool, true, false, arith}
use Rattle.std.specs.Prelude.{All, if◌then◌else◌}
use Rattle.std.proofs.lemmas.List.Elements.{All-head, All-tail, All-weaker}
use Rattle.mt_eval_keeps.specs.Growth.{Owning, Fits, Good, Grew}
use Rattle.mt_eval_keeps.proofs.Runs.{same, further, fits_kept, Claim, After, left_with, Runs, runs_bind, runs_pure, runs_less, runs_leave, runs_spared, runs_caught, Value'}
use Rattle.mt_eval_keeps.proofs.Steps.{Any, Pays, Holds, holds_later}
use Rattle.mt_eval_meaning.specs.Runs.{leaves}
use Rattle.mt_eval_meaning.specs.State.{Eval}
use Rattle.mt_eval_meaning.specs.Statements as statements
use Rattle.mt_eval_meaning.specs.declared.completion.Completion.{Completion}
use Rattle.mt_eval_meaning.specs.declared.completion.Completion.TheVariants as completion
use Rattle.mt_eval_meaning.specs.declared.exit.Exit.TheVariants as exit
use Rattle.mt_eval_meaning.specs.declared.exit.Stop.TheVariants as stop
use Rattle.mt_eval_meaning.specs.declared.state.State.{State}
use Rattle.mt_ops.specs.Operators.{is_truthy}
use Rattle.mt_value.specs.declared.value.Value.{Value}

module _ {H : Type 0} (owns : Owning H) (most : ℕ) where
  abbrev V : Claim owns most Value
  V = Value' owns most

  abbrev E : State × H → Eval H Value → Type 0
  E = Pays owns most V

  abbrev pub FitsCompletion : Claim owns most Completion
  FitsCompletion (completion.Return v) t = Fits owns t v
  FitsCompletion _ t = Unit {0}

  abbrev S : State × H → Eval H Completion → Type 0
  S = Holds owns most FitsCompletion

  abbrev U : State × H → Eval H (Unit {0}) → Type 0
  U = Holds owns most (Any owns most)

  pub expression_holds : {first : State × H} {e : Eval H Value} → E first e → S first (statements.expression e)
  unfolding statements.expression
  expression_holds k = record { runs = λ c t g. runs_less owns most c (omega arith) (runs_bind owns most (k.runs c t g) (λ v u f h. runs_pure owns most completion.Normal (λ w e. tt))) }

  pub finished_holds : {first : State × H} {p : Eval H (Unit {0})} → U first p → S first (statements.finished p)
  unfolding statements.finished
  finished_holds k = record { runs = λ c t g. runs_bind owns most (k.runs c t g) (λ v u f h. runs_pure owns most completion.Normal (λ w e. tt)) }

  pub given_back_holds : {first : State × H} {e : Eval H Value} → E first e → S first (statements.given_back e)
  unfolding statements.given_back
  given_back_holds k = record { runs = λ c t g. runs_less owns most c (omega arith) (runs_bind owns most (k.runs c t g) (λ v u f h. runs_pure owns most (completion.Return v) (λ w e. fits_kept owns most e h))) }

  pub thrown_holds : {first : State × H} {e : Eval H Value} → E first e → S first (statements.thrown e)
  unfolding statements.thrown
  thrown_holds k = record { runs = λ c t g. runs_bind owns most (k.runs c t g) (λ v u f h. runs_leave owns most (exit.Throw v) (λ w e. fits_kept owns most e h)) }

  on_normal_runs : {first : State × H} (c : ℕ) (x : Completion) (next : Eval H Completion) → FitsCompletion x first → Runs owns most first c c next FitsCompletion → Runs owns most first c c (statements.on_normal x next) FitsCompletion
  on_normal_runs c completion.Normal next h k = k
  on_normal_runs c completion.Break next h k = runs_pure owns most completion.Break (λ t g. tt)
  on_normal_runs c completion.Continue next h k = runs_pure owns most completion.Continue (λ t g. tt)
  on_normal_runs c (completion.Return v) next h k = runs_pure owns most (completion.Return v) (λ t g. fits_kept owns most g h)

  sequence_runs : (ts : List (Eval H Completion)) (first : State × H) (c : ℕ) → All (S first) ts → Runs owns most first c c (statements.sequence ts) FitsCompletion
  sequence_runs [] first c ks = runs_pure owns most completion.Normal (λ t g. tt)
  sequence_runs (m ∷ ts) first c ks =
      runs_bind owns most ((All-head (S first) m ts ks).runs c first (same owns most first)) (λ x u f h.
      on_normal_runs c x (statements.sequence ts) h (sequence_runs ts u c (All-weaker (S first) (S u) (holds_later owns most FitsCompletion first u f) ts (All-tail (S first) m ts ks))))

  pub sequence_holds : {first : State × H} (ts : List (Eval H Completion)) → All (S first) ts → S first (statements.sequence ts)
  sequence_holds {first = first} ts ks = record { runs = λ c t g. sequence_runs ts t c (All-weaker (S first) (S t) (holds_later owns most FitsCompletion first t g) ts ks) }

  chosen : {A : Type 0} {P : Claim owns most A} {first : State × H} {a b : Eval H A} (test : Bool) (c : ℕ) → Runs owns most first c c a P → Runs owns most first c c b P → Runs owns most first c c (if test then a else b) P
  chosen true c k l = k
  chosen false c k l = l

  pub choice_holds : {first : State × H} {test : Eval H Value} {a b : Eval H Completion} → E first test → S first a → S first b → S first (statements.choice test a b)
  unfolding statements.choice
  choice_holds {first = first} k l m = record {
    runs = λ c t g.
        runs_bind owns most (runs_less owns most c (omega arith) (k.runs c t g)) (λ v u f h.
        chosen (is_truthy v) c (l.runs c u (further owns most first t u g f)) (m.runs c u (further owns most first t u g f)));
  }

  -- ---- loops

  abbrev Turned : Claim owns most (Option Completion)
  Turned None t = Unit {0}
  Turned (Some x) t = FitsCompletion x t

  after_body_runs : {first : State × H} {step : Eval H (Unit {0})} (c : ℕ) (x : Completion) → FitsCompletion x first → U first step → Runs owns most first c c (statements.after_body step x) Turned
  after_body_runs {first = first} c completion.Normal h k = runs_bind owns most (k.runs c first (same owns most first)) (λ _ u f _. runs_pure owns most None (λ t g. tt))
  after_body_runs {first = first} c completion.Continue h k = runs_bind owns most (k.runs c first (same owns most first)) (λ _ u f _. runs_pure owns most None (λ t g. tt))
  after_body_runs c completion.Break h k = runs_pure owns most (Some completion.Normal) (λ t g. tt)
  after_body_runs c (completion.Return v) h k = runs_pure owns most (Some (completion.Return v)) (λ t g. fits_kept owns most g h)

  turn_body_holds : {first : State × H} {body : Eval H Completion} {step : Eval H (Unit {0})} → S first body → U first step → Holds owns most Turned first (statements.turn_body body step)
  unfolding statements.turn_body
  turn_body_holds {first = first} {step = step} k l = record {
    runs = λ c t g. runs_bind owns most (k.runs c t g) (λ x u f h. after_body_runs c x h (holds_later owns most (Any owns most) first u (further owns most first t u g f) step l));
  }

  turn_holds : {first : State × H} {test : Eval H Value} {body : Eval H Completion} {step : Eval H (Unit {0})} → Holds owns most V first test → S first body → U first step → Holds owns most Turned first (statements.turn test body step)
  unfolding statements.turn
  turn_holds {first = first} k l m = record {
    runs = λ c t g.
        runs_bind owns most (k.runs c t g) (λ v u f h.
        chosen (is_truthy v) c ((turn_body_holds l m).runs c u (further owns most first t u g f)) (runs_pure owns most (Some completion.Normal) (λ w e. tt)));
  }

  followed_runs : {first : State × H} (c before : ℕ) (x : Option Completion) (next : Eval H Completion) → Turned x first → Runs owns most first c c next FitsCompletion → Runs owns most first c c (statements.followed before x next) FitsCompletion
  followed_runs {first = first} c before None next h k = record { run = λ y s g good. by y (nat_lt s.0.budget before) s g good }
    where
      by : (y : ℕ) (b : Bool) (s : State × H) → Grew owns first s → Good owns most (s.0.budget + (c + y)) s → After owns most s (left_with owns most y) (left_with owns most (c + y)) FitsCompletion (if b then next s else leaves (exit.Stop stop.Budget) s)
      by y true s g good = k.run y s g good
      by y false s g good = (runs_leave owns most {A = Completion} {c = c} {d = c} {post = FitsCompletion} (exit.Stop stop.Budget) (λ t f. tt)).run y s (same owns most s) good
  followed_runs c before (Some x) next h k = runs_pure owns most x (λ t g. later x g h)
    where
      later : (x : Completion) {s t : State × H} → Grew owns s t → FitsCompletion x s → FitsCompletion x t
      later completion.Normal g h = h
      later completion.Break g h = h
      later completion.Continue g h = h
      later (completion.Return v) g h = fits_kept owns most g h

  turns_runs : (n : ℕ) (first : State × H) (c : ℕ) (one : Eval H (Option Completion)) → Holds owns most Turned first one → Runs owns most first c c (statements.turns n one) FitsCompletion
  turns_runs zero first c one k = runs_leave owns most (exit.Stop stop.Budget) (λ t g. tt)
  turns_runs (suc n) first c one k = record {
    run = λ y s g good.
        (runs_bind owns most {m = one} {f = λ x. statements.followed s.0.budget x (statements.turns n one)} (k.runs c first (same owns most first)) (λ x u f h.
        followed_runs c s.0.budget x (statements.turns n one) h (turns_runs n u c one (holds_later owns most Turned first u f one k)))).run y s g good;
  }

  turning_holds : {first : State × H} {one : Eval H (Option Completion)} → Holds owns most Turned first one → S first (statements.turning one)
  unfolding statements.turning
  turning_holds {first = first} {one = one} k = record { runs = λ c t g. record { run = λ y s f good. (turns_runs (suc s.0.budget) t c one (holds_later owns most Turned first t g one k)).run y s f good } }

  pub loop_holds : {first : State × H} {test : Eval H Value} {body : Eval H Completion} {step : Eval H (Unit {0})} → Holds owns most V first test → S first body → U first step → S first (statements.loop test body step)
  loop_holds k l m = turning_holds (turn_holds k l m)

  pub starting_holds : {first : State × H} {start : Eval H (Unit {0})} {rest : Eval H Completion} → U first start → S first rest → S first (statements.starting start rest)
  unfolding statements.starting
  starting_holds {first = first} k l = record { runs = λ c t g. runs_bind owns most (k.runs c t g) (λ _ u f h. l.runs c u (further owns most first t u g f)) }

  pub attempt_holds : {first : State × H} {body : Eval H Completion} {handler : Value → Eval H Completion} → S first body → ((v : Value) (t : State × H) → Grew owns first t → Fits owns t v → S t (handler v)) → S first (statements.attempt body handler)
  unfolding statements.attempt
  attempt_holds {first = first} k l = record {
    runs = λ c t g.
        runs_spared owns most c
        (runs_caught owns most (k.runs 0 t g) (λ v u f h. (l v u (further owns most first t u g f) h).runs 0 u (same owns most u)));
  }
