use Rattle.jump_expand.proofs.emission.push_item.Goals as goal

pub returns-in-Jump : goal.returns-in-Jump
returns-in-Jump c = rw c.in-Jump.is (c.push_jump.ensures c.in-Jump.field-0 c.in-Jump.field-1)

pub returns-in-Test : goal.returns-in-Test
returns-in-Test c = rw c.in-Test.is (c.push_test.ensures c.in-Test.field-0 c.in-Test.field-1)
