use Rattle.ely_scram_msg.proofs.field.Field.value.Goals as goal

pub behind_letter-requires : goal.behind_letter-requires
behind_letter-requires c = rw (← c.self.view_is) (c.begins.ensures.boundary c.if-begins.true)
