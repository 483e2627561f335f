use Rattle.grid_records_estimate.proofs.Rooms.{LeaveRoom-heights, LeaveRoom-track_sizes, LeaveRoom-widths}
use Rattle.grid_records_estimate.proofs.laws.sizes_leave_room.Goals as goal

pub returns-clause-tracks : goal.returns-clause-tracks
returns-clause-tracks c = LeaveRoom-track_sizes

pub returns-clause-widths : goal.returns-clause-widths
returns-clause-widths c = LeaveRoom-widths

pub returns-clause-heights : goal.returns-clause-heights
returns-clause-heights c = LeaveRoom-heights
