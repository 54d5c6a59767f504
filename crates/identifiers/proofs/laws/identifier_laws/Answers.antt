use Rattle.identifiers.proofs.Ascii.{begins_none, ends_all, plain}
use Rattle.identifiers.proofs.Spelling.{ends, nothing, stands}
use Rattle.identifiers.proofs.laws.identifier_laws.Goals as goal

pub returns-clause-stands : goal.returns-clause-stands
returns-clause-stands c = stands

pub returns-clause-ends : goal.returns-clause-ends
returns-clause-ends c = ends

pub returns-clause-begins_none : goal.returns-clause-begins_none
returns-clause-begins_none c = begins_none

pub returns-clause-ends_all : goal.returns-clause-ends_all
returns-clause-ends_all c = ends_all

pub returns-clause-end_ends_all : goal.returns-clause-end_ends_all
returns-clause-end_ends_all c = nothing

pub returns-clause-plain : goal.returns-clause-plain
returns-clause-plain c = plain
