mod Ending
mod Finishing
mod Going
mod Owning
mod WholeGoing
mod WrongSessions
