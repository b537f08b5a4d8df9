use Rattle.grid_text.proofs.Paths.JudgementLemmas as laws
use Rattle.grid_text.proofs.Paths.OutcomeLemmas.{every_text, one_fault}
use Rattle.grid_text.proofs.judgement.judge.Goals as goal

pub returns-clause-no_document : goal.returns-clause-no_document
returns-clause-no_document c = laws.no_document

pub returns-clause-one_script : goal.returns-clause-one_script
returns-clause-one_script c = laws.one_script

pub returns-clause-allowed : goal.returns-clause-allowed
returns-clause-allowed c = laws.allowed

pub returns-clause-one_place : goal.returns-clause-one_place
returns-clause-one_place c = laws.one_place_of_path

pub returns-clause-every_text : goal.returns-clause-every_text
returns-clause-every_text c = every_text

pub returns-clause-one_fault : goal.returns-clause-one_fault
returns-clause-one_fault c = one_fault

pub returns-clause-one_head : goal.returns-clause-one_head
returns-clause-one_head c = laws.one_head
