-- Each step fills what it writes. Assumes nothing.
use Rattle.filling.proofs.Laws.{filled_1, filled_2, filled_3, filled_4}
use Rattle.filling.proofs.fill_task.Goals as goal

pub returns-in-Factor : goal.returns-in-Factor
returns-in-Factor c =
    filled_1 c.args.z _ _ _ _ c.in-Factor.ensures.same_task _ _ c.fill_tile.ensures c.fill_list.ensures

pub returns-in-Apply : goal.returns-in-Apply
returns-in-Apply c =
    filled_2 c.args.z _ _ _ _ _ c.in-Apply.ensures.same_task _ c.fill_tile-in-Apply.ensures

pub returns-in-Couple : goal.returns-in-Couple
returns-in-Couple c =
    filled_3 c.args.z _ _ _ _ _ c.in-Couple.ensures.same_task _ _ _ c.fill_tile-in-Couple.ensures c.fill_upper_part.ensures c.fill_list-in-Couple.ensures

pub returns-in-Pair : goal.returns-in-Pair
returns-in-Pair c =
    filled_4 c.args.z _ _ _ _ _ _ c.in-Pair.ensures.same_task _ _ c.fill_tile-in-Pair.ensures c.fill_tile-in-Pair-2.ensures
