-- The trees of a file that is being read: a stack for each sort of tree, and what is on top of it.
-- Whatever a stack lacks is a default, so that every action does something on every stack.
use Rattle.std.specs.Prelude.{ℕ, List, [], map, Option, None}
use Rattle.res_ast.specs.declared.expression.Expr.{Expr}
use Rattle.res_ast.specs.declared.facility.FacArg.{FacArg}
use Rattle.res_ast.specs.declared.facility.FacDecl.{FacDecl}
use Rattle.res_ast.specs.declared.heading.Formal.{Formal}
use Rattle.res_ast.specs.declared.heading.Heading.{Heading}
use Rattle.res_ast.specs.declared.heading.Mode.{Mode}
use Rattle.res_ast.specs.declared.heading.Mode.TheVariants.{Updates}
use Rattle.res_ast.specs.declared.heading.Param.{Param}
use Rattle.res_ast.specs.declared.heading.PType.{PType}
use Rattle.res_ast.specs.declared.model.Family.{Family}
use Rattle.res_ast.specs.declared.procedure.LocalOp.{LocalOp}
use Rattle.res_ast.specs.declared.procedure.Procedure.{Procedure}
use Rattle.res_ast.specs.declared.procedure.Rep.{Rep}
use Rattle.res_ast.specs.declared.statement.Place.{Place}
use Rattle.res_ast.specs.declared.statement.Stmt.{Stmt}
use Rattle.expr_parser.specs.declared.word.Word.{Word}
use Rattle.expr_parser.specs.Actions.{first_or, no_expr, no_operands, no_word, others}
use Rattle.module_parser.specs.declared.state.State.{State}

abbrev pub outset : State
outset = record {
  operands = no_operands;
  names = [];
  clauses = [];
  modes = [];
  types = [];
  results = [];
  params = [];
  headings = [];
  heading_lists = [];
  fields = [];
  model = [];
  factors = [];
  families = [];
  formals = [];
  places = [];
  place_lists = [];
  blocks = [];
  args = [];
  optional = [];
  pairs = [];
  facilities = [];
  reps = [];
  locals = [];
  procedures = [];
  components = [];
}

-- ---- defaults

abbrev pub no_type : PType
no_type = record { at = 0; facility = None; name = [] }

abbrev pub no_heading : Heading
no_heading = record { at = 0; name = []; params = []; result = None; requires_clause = None; ensures_clause = None }

abbrev pub no_place : Place
no_place = record { at = 0; base = []; field = None }

-- ---- words, counted from the newest, from 0

abbrev pub word_0 : State → Word
word_0 s = first_or no_word s.operands.words

abbrev pub word_1 : State → Word
word_1 s = first_or no_word (others s.operands.words)

abbrev pub word_2 : State → Word
word_2 s = first_or no_word (others (others s.operands.words))

abbrev pub word_3 : State → Word
word_3 s = first_or no_word (others (others (others s.operands.words)))

-- ---- the newest of each

abbrev pub expr_0 : State → Expr
expr_0 s = first_or no_expr s.operands.exprs

abbrev pub expr_1 : State → Expr
expr_1 s = first_or no_expr (others s.operands.exprs)

abbrev pub expr_2 : State → Expr
expr_2 s = first_or no_expr (others (others s.operands.exprs))

abbrev pub list : State → List Expr
list s = first_or [] s.operands.lists

abbrev pub words : State → List Word
words s = first_or [] s.names

abbrev pub names : State → List (List ℕ)
names s = map (λ w. w.name) (words s)

abbrev pub clause_0 : State → Option Expr
clause_0 s = first_or None s.clauses

abbrev pub clause_1 : State → Option Expr
clause_1 s = first_or None (others s.clauses)

abbrev pub mode : State → Mode
mode s = first_or Updates s.modes

abbrev pub type_of : State → PType
type_of s = first_or no_type s.types

abbrev pub result_of : State → Option PType
result_of s = first_or None s.results

abbrev pub params : State → List Param
params s = first_or [] s.params

abbrev pub heading : State → Heading
heading s = first_or no_heading s.headings

abbrev pub headings : State → List Heading
headings s = first_or [] s.heading_lists

abbrev pub fields : State → List (List ℕ × PType)
fields s = first_or [] s.fields

abbrev pub family : State → Option Family
family s = first_or None s.families

abbrev pub formals : State → List Formal
formals s = first_or [] s.formals

abbrev pub place_0 : State → Place
place_0 s = first_or no_place s.places

abbrev pub place_1 : State → Place
place_1 s = first_or no_place (others s.places)

abbrev pub places : State → List Place
places s = first_or [] s.place_lists

abbrev pub block_0 : State → List Stmt
block_0 s = first_or [] s.blocks

abbrev pub block_1 : State → List Stmt
block_1 s = first_or [] (others s.blocks)

abbrev pub args : State → List FacArg
args s = first_or [] s.args

abbrev pub optional : State → Option (List ℕ)
optional s = first_or None s.optional

abbrev pub pairs : State → List (List ℕ × List ℕ)
pairs s = first_or [] s.pairs

abbrev pub facilities : State → List FacDecl
facilities s = first_or [] s.facilities

abbrev pub rep : State → Option Rep
rep s = first_or None s.reps

abbrev pub locals : State → List LocalOp
locals s = first_or [] s.locals

abbrev pub procedures : State → List Procedure
procedures s = first_or [] s.procedures

-- ---- words and expressions taken off

abbrev pub without_1_word : State → State
without_1_word s = record s { operands = record s.operands { words = others s.operands.words } }

abbrev pub without_2_words : State → State
without_2_words s = record s { operands = record s.operands { words = others (others s.operands.words) } }

abbrev pub without_3_words : State → State
without_3_words s = record s { operands = record s.operands { words = others (others (others s.operands.words)) } }

abbrev pub without_4_words : State → State
without_4_words s = record s { operands = record s.operands { words = others (others (others (others s.operands.words))) } }

abbrev pub without_1_expr : State → State
without_1_expr s = record s { operands = record s.operands { exprs = others s.operands.exprs } }

abbrev pub without_2_exprs : State → State
without_2_exprs s = record s { operands = record s.operands { exprs = others (others s.operands.exprs) } }

abbrev pub without_3_exprs : State → State
without_3_exprs s = record s { operands = record s.operands { exprs = others (others (others s.operands.exprs)) } }

abbrev pub without_list : State → State
without_list s = record s { operands = record s.operands { lists = others s.operands.lists } }
