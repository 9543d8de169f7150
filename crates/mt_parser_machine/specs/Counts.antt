-- How many finished parts the open levels count.
use Rattle.std.specs.Prelude.{ℕ, ◌+◌, List, [], ◌∷◌}
use Rattle.mt_grammar.specs.Stack.{Level}
use Rattle.mt_grammar.specs.Stack as f

abbrev pub count_of : Level → ℕ
count_of (f.Program c) = c
count_of (f.Block p c) = c
count_of (f.FunctionBody h p m c) = m + c
count_of (f.Tilde p c) = c
count_of (f.DeclName d p c) = c
count_of (f.DeclNext d p c) = c
count_of (f.DeclValue d p c) = c
count_of (f.FunctionNext h p m) = m
count_of (f.ParameterName h p m) = m
count_of (f.FunctionBrace h p m) = m
count_of (f.Arguments s c) = c
count_of (f.Array p c) = c
count_of (f.ObjectKey p c) = c
count_of (f.ObjectColon p c) = c
count_of (f.ObjectValue p c) = c
count_of (f.Attributes m a v) = a
count_of (f.AttributeValue m a) = a
count_of (f.Children m a c) = a + c
count_of _ = 0

abbrev pub counted : List Level → ℕ
counted [] = 0
counted (x ∷ fs) = count_of x + counted fs
