-- Each case of the answer has its number, and writes to one of the two places.
use Rattle.coordinates.specs.declared.CoordinateError.TheVariants.{TooLong, NotUtf8, NoExtent, NoCoordinate}
use Rattle.coordinates.proofs.Calls.{refused_as}
use Rattle.coordinates_exports.proofs.tell.Goals as goal

pub returns-in-Ok : goal.returns-in-Ok
returns-in-Ok c = (rw c.in-Ok.is, rw c.in-Ok.is, rw c.in-Ok.is)

pub returns-in-Err-TooLong : goal.returns-in-Err-TooLong
returns-in-Err-TooLong c = (rw (refused_as _ _ TooLong c.in-Err-TooLong.is (rw c.in-Err-TooLong.is at c.in-Err-TooLong.field-0-is)), rw (refused_as _ _ TooLong c.in-Err-TooLong.is (rw c.in-Err-TooLong.is at c.in-Err-TooLong.field-0-is)), rw (refused_as _ _ TooLong c.in-Err-TooLong.is (rw c.in-Err-TooLong.is at c.in-Err-TooLong.field-0-is)))

pub returns-in-Err-NotUtf8 : goal.returns-in-Err-NotUtf8
returns-in-Err-NotUtf8 c = (rw (refused_as _ _ (NotUtf8 _) c.in-Err-NotUtf8.is (rw c.in-Err-NotUtf8.is at c.in-Err-NotUtf8.field-0-is)), rw (refused_as _ _ (NotUtf8 _) c.in-Err-NotUtf8.is (rw c.in-Err-NotUtf8.is at c.in-Err-NotUtf8.field-0-is)), rw (refused_as _ _ (NotUtf8 _) c.in-Err-NotUtf8.is (rw c.in-Err-NotUtf8.is at c.in-Err-NotUtf8.field-0-is)))

pub returns-in-Err-NoExtent : goal.returns-in-Err-NoExtent
returns-in-Err-NoExtent c = (rw (refused_as _ _ NoExtent c.in-Err-NoExtent.is (rw c.in-Err-NoExtent.is at c.in-Err-NoExtent.field-0-is)), rw (refused_as _ _ NoExtent c.in-Err-NoExtent.is (rw c.in-Err-NoExtent.is at c.in-Err-NoExtent.field-0-is)), rw (refused_as _ _ NoExtent c.in-Err-NoExtent.is (rw c.in-Err-NoExtent.is at c.in-Err-NoExtent.field-0-is)))

pub returns-in-Err-NoCoordinate : goal.returns-in-Err-NoCoordinate
returns-in-Err-NoCoordinate c = (rw (refused_as _ _ NoCoordinate c.in-Err-NoCoordinate.is (rw c.in-Err-NoCoordinate.is at c.in-Err-NoCoordinate.field-0-is)), rw (refused_as _ _ NoCoordinate c.in-Err-NoCoordinate.is (rw c.in-Err-NoCoordinate.is at c.in-Err-NoCoordinate.field-0-is)), rw (refused_as _ _ NoCoordinate c.in-Err-NoCoordinate.is (rw c.in-Err-NoCoordinate.is at c.in-Err-NoCoordinate.field-0-is)))
