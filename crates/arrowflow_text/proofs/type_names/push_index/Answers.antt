use Rattle.arrowflow_text.proofs.type_names.push_index.Goals as goal

-- the name of the indices' type is a row of the table
pub returns : goal.returns
returns c = rw (← c.int_words-index.ensures.name) c.write.ensures.bytes
